-- The laws that the proofs of this crate, and of the crates above it, cite.
pub mod Written
pub mod Slots
pub mod BatchWays
pub mod Ways
pub mod Repeated
pub mod EachCall
