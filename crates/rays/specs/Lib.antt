-- What the contracts of this crate cite, and what a reader must believe.
pub mod Rays
pub mod EachCall
pub mod Steps
