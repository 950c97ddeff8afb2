pub mod lemmas
pub mod Spans
