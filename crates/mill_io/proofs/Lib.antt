pub mod Filing
pub mod Placing
pub mod lemmas
