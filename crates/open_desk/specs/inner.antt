-- What only contracts of private functions and types cite.
pub mod Kept
