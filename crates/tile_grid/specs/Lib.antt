pub mod Near
pub mod Tiles
pub mod inner
