pub mod Events
pub mod LastCalls
pub mod LineNames
pub mod Moving
pub mod Running
pub mod Holding
