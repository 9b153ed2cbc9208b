pub mod PieceLaws
pub mod HeadLaws
pub mod InTurnLaws
pub mod TapLaws
pub mod LogLaws
pub mod ReportLaws
