pub mod Inside
pub mod Opening
pub mod Pace
pub mod Readiness
pub mod StandardStreams
