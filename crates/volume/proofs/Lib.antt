-- The laws that the proofs of this crate, and of the crates above it, cite.
pub mod Counted
pub mod Accepted
pub mod WithoutFarEnd
