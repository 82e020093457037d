-- The laws that the proofs of this crate, and of the crates above it, cite.
pub mod Differences
pub mod Spans
pub mod First
pub mod Distances
pub mod Steps
pub mod Meaning
