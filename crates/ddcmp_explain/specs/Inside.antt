-- Definitions used inside the crate only; no public contract depends on them.
pub mod Decoding
pub mod Heads
pub mod Openings
pub mod Progress
pub mod Putting
pub mod Reading
