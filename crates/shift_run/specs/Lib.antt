pub mod DeskActs
pub mod Desks
pub mod Lent
pub mod Runs
pub mod inner
