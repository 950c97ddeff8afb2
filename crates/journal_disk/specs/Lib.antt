pub mod Disks
pub mod Gates
pub mod Memory
pub mod Texts
pub mod Told
