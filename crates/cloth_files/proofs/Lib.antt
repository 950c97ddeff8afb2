pub mod Rows
pub mod Lifts
pub mod Files
