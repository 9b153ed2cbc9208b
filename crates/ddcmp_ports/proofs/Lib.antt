pub mod LineNameLaws
pub mod RunLaws
