pub mod Codes
pub mod Explained
pub mod Handed
pub mod Played
