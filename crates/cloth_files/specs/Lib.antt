pub mod Images
pub mod Cards
pub mod Refusals
