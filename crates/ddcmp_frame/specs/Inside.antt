-- Definitions that are cited inside the crate alone: no promise rests on them.
pub mod PlainRoom
pub mod Scan
