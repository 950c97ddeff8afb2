-- What only the crate's own functions speak of.
pub mod Kept
pub mod MarksOf
pub mod Parts
