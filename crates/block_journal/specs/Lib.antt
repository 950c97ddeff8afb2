pub mod Journals
pub mod Keeps
pub mod Opens
