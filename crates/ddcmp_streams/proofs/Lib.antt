pub mod ErrorsLaws
pub mod HeardLaws
pub mod JunkLaws
pub mod TraceLaws
