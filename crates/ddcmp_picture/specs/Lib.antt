pub mod Inside
pub mod Drawn
pub mod ShortTexts
pub mod Labels
pub mod Trips
pub mod Marks
