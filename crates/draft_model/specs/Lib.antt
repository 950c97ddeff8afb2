pub mod Cards
pub mod Cells
pub mod Cloths
pub mod Designs
pub mod Drawdowns
pub mod Floats
pub mod Inner
pub mod Texts
