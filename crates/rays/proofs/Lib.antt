-- The laws that the proofs of this crate, and of the crates above it, cite.
pub mod Passed
pub mod Cleared
pub mod EachCall
