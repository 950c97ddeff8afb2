pub mod Puts
pub mod Tellings
pub mod Texts
