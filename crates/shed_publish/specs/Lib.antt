pub mod Ends
pub mod inner
pub mod Seats
pub mod Versions
