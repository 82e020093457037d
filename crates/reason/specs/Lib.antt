-- What the contracts of this crate cite, and what a reader must believe.
pub mod Lines
pub mod Explained
pub mod Meaning
pub mod Steps
