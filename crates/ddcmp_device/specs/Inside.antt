-- Definitions used inside the crate only; no public contract depends on them.
pub mod Lines
pub mod Lives
pub mod Saving
