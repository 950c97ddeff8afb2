-- What only contracts of private functions and types cite.
pub mod Kept
pub mod Opened
pub mod Rooms
pub mod Touched
