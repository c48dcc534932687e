pub mod PlayedLaws
pub mod ScriptLaws
