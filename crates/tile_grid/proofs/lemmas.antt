pub mod Near
pub mod Splits
pub mod Tiles
