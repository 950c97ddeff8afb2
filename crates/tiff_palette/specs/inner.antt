pub mod Drawings
pub mod Outcomes
pub mod Sizes
