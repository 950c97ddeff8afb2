pub mod Bits
pub mod Cells
pub mod Lines
