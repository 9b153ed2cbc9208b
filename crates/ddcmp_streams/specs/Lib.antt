pub mod Echo
pub mod Errors
pub mod Messages
pub mod Options
pub mod Queued
pub mod Trace
pub use Rattle.ddcmp_io.specs.Queue
