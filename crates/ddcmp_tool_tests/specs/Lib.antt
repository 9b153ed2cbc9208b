pub mod Joined
pub mod Tapped
