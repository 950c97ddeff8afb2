pub mod Checkers
pub mod Moves
pub mod Papers
pub mod Texts
pub mod Verdicts
