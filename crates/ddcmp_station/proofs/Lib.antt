pub mod DriveLaws
pub mod RunLaws
pub mod SeenLaws
pub mod OutboxLaws
