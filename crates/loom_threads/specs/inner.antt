pub mod Lifters
pub mod Weavers
pub mod WeaverFields
