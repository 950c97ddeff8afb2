-- What only the crate's own functions speak of.
pub mod Read
pub mod Spans
