pub mod Check
pub mod Sequence
