-- The laws that the proofs of this crate, and of the crates above it, cite.
pub mod Reached
pub mod SpanByCuts
pub mod Furthest
pub mod Without
pub mod BlockingByCuts
pub mod Calls
pub mod Meaning
pub mod OnlyBit
pub mod Worked
