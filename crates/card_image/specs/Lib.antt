pub mod Chains
pub mod Faults
pub mod Fed
pub mod Firsts
pub mod inner
pub mod Places
pub mod Sets
pub mod Texts
