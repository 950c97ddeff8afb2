pub mod Adds
pub mod Foreman
pub mod Laws
pub mod Looms
pub mod Shifts
pub mod Slots
pub mod Unread
