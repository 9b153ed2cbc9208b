pub mod Crossing
pub mod Delaying
pub mod Faults
pub mod Relaying
pub mod Report
pub mod Reported
pub mod Reporting
