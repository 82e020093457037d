-- What the contracts of this crate cite, and what a reader must believe.
pub mod Words
pub mod Same
pub mod Lengths
pub mod Answers
pub mod Trials
