pub mod Prefixes
pub mod Published
