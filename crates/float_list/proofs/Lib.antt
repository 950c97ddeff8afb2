pub mod Kept
pub mod Overs
pub mod Firsts
pub mod OnLines
pub mod Pieces
