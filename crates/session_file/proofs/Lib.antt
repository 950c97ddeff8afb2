pub mod Decided
pub mod Drafts
pub mod Fitting
pub mod Images
pub mod Motifs
pub mod Readings
pub mod Trials
