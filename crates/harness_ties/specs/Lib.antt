pub mod Faults
pub mod Sections
pub mod Texts
pub mod Ties
pub mod inner
