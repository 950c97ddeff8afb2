-- What only contracts of private functions cite.
pub mod Grids
pub mod Tables
pub mod Walks
