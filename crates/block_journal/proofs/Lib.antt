pub mod Blocks
pub mod Keeping
pub mod Opening
pub mod Reading
pub mod Once
pub mod Longer
