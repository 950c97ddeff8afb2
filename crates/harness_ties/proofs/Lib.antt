pub mod Ends
pub mod Rounds
pub mod Builds
pub mod Columns
pub mod Firsts
pub mod Stretches
pub mod WithoutFault
