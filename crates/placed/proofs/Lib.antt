-- The laws that the proofs of this crate, and of the crates above it, cite.
pub mod Registers
pub mod Truncation
pub mod Loading
pub mod Moved
pub mod Counted
pub mod Calls
