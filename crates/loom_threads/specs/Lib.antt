pub mod Cuts
pub mod Lifts
pub mod Looms
pub mod Woven
pub mod inner
