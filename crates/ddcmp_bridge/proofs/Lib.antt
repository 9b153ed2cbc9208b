pub mod AmountLaws
pub mod CrossLaws
pub mod DelayLaws
pub mod DueLaws
pub mod JoinLaws
pub mod RelayLaws
pub mod ReportLaws
