mod Acts
mod Marked
mod Takes
