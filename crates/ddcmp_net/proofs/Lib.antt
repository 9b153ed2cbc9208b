pub mod AnswerLaws
pub mod ServingLaws
