-- What the contracts of this crate cite, and what a reader must believe.
pub mod Nearest
pub mod Calls
pub mod Meaning
pub mod Steps
