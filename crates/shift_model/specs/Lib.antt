pub mod Logs
pub mod Plans
pub mod Steps
pub mod WorkedSteps
