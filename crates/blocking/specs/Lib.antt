-- What the contracts of this crate cite, and what a reader must believe.
pub mod Blocking
pub mod Calls
pub mod Meaning
pub mod Worked
pub mod Steps
