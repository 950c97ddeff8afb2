pub mod Tiles
pub mod Lines
pub mod Rebuilds
pub mod Values
pub mod Wholes
pub mod Jobs
pub mod Dones
pub mod inner
