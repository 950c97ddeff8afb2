pub mod Closings
pub mod Differences
pub mod Histories
pub mod Locks
pub mod Passes
pub mod Refusals
pub mod Texts
pub mod inner
