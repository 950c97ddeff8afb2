mod Boards
mod Keeping
pub mod lemmas
