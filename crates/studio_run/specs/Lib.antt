pub mod Commands
pub mod Outputs
pub mod Answers
pub mod inner
