-- What only models and contracts of private functions cite.
pub mod Decoders
pub mod Kept
pub mod Masks
