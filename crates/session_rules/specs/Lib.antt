pub mod Checks
pub mod Faults
pub mod Paths
pub mod Tables
pub mod Texts
pub mod Values
