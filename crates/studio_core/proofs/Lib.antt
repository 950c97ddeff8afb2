pub mod Central
pub mod Cores
pub mod Flags
pub mod Taken
pub mod Touched
pub mod Walked
