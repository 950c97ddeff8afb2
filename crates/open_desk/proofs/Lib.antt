pub mod Closing
pub mod Counting
pub mod Gathering
pub mod Keeping
pub mod Picked
