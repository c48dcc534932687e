pub mod WriteSteps
pub mod Edits
