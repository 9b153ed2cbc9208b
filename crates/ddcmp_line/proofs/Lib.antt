pub mod Cutting
pub mod EachText
pub mod Endings
pub mod Playing
pub mod ReplyLaws
pub mod Scenes
pub mod TakingLaws
