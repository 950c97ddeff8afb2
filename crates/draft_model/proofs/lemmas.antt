pub mod ClothLines
pub mod LongCells
