pub mod Blocks
pub mod Doings
