-- What only contracts of private functions cite.
pub mod Blocks
pub mod Digits
pub mod FirstBits
pub mod GridBlocks
pub mod Stretches
pub mod Swaps
pub mod Turnings
