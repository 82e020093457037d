-- What the contracts of this crate cite, and what a reader must believe.
pub mod Directory
pub mod FarmFile
pub mod Reading
pub mod Text
pub mod Lines
pub mod Steps
