pub mod TextLaws
pub mod LabelLaws
pub mod NoteLaws
pub mod EndLaws
pub mod CaptionLaws
