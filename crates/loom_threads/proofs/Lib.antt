mod Buffers
mod Lifting
mod Repeats
mod Stated
mod Turns
pub mod lemmas
