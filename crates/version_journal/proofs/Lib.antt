pub mod Histories
pub mod Papers
