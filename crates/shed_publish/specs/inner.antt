-- What only models and contracts of private functions cite.
pub mod Inside
pub mod Places
pub mod Rule
pub mod Writers
