pub mod Keyed
pub mod Others
pub mod lemmas
