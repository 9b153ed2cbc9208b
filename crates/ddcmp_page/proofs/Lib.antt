pub mod DecodeLaws
pub mod PlayLaws
