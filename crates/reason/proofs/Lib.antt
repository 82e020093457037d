-- The laws that the proofs of this crate, and of the crates above it, cite.
pub mod Texts
pub mod Boxes
pub mod Meaning
