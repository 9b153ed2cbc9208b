pub mod CommandLaws
pub mod MakingLaws
pub mod NumberLaws
