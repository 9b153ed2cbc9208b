pub mod Day
pub mod Inside
pub mod Items
pub mod Ladder
pub mod Logged
pub mod Reasons
pub mod Scheduling
pub mod Stamps
