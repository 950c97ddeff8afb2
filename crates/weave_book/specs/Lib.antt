pub mod Books
pub mod inner
pub mod Rows
pub mod Satins
pub mod Spelling
pub mod Texts
pub mod Weaves
