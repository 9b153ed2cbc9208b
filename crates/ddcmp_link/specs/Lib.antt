pub mod Ending
pub mod Events
