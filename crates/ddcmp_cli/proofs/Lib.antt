pub mod BridgeLaws
pub mod CommandLaws
pub mod ScriptLaws
