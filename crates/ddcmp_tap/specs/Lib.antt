pub mod Inside
pub mod Forwarding
pub mod Logging
pub mod Reporting
pub mod Stamping
pub mod Tapping
pub mod InTurn
pub mod Order
