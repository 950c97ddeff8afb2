pub mod Logs
pub mod Tells
