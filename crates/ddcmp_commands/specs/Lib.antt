pub mod Connections
pub mod Early
pub mod Origins
pub mod Endings
pub mod Explaining
pub mod Stations
pub mod TapEndings
