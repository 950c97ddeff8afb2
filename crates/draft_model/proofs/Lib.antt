pub mod lemmas
pub mod ClothRows
pub mod FirstFloats
pub mod LongGrids
