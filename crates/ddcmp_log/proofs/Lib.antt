pub mod DayLaws
pub mod ScheduleLaws
pub mod TellLaws
pub mod TextLaws
