-- What only contracts of private functions and types cite.
pub mod Cells
pub mod Kept
pub mod Numbers
pub mod Passes
