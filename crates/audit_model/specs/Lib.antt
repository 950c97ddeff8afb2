pub mod Audits
pub mod Lines
pub mod Pieces
pub mod Reads
pub mod States
pub mod inner
