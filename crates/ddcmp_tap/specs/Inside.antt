-- Definitions used inside the crate only; no public contract depends on them.
pub mod Sides
