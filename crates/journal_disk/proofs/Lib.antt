pub mod Crashes
pub mod Ends
pub mod Steps
pub mod lemmas
