pub mod Answered
pub mod Cuts
pub mod Joined
pub mod Listed
pub mod Shown
pub mod Told
