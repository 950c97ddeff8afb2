pub mod Acts
pub mod Cells
pub mod Motifs
pub mod Paints
pub mod Places
pub mod Spans
pub mod Texts
pub mod inner
