-- The laws that the proofs of this crate, and of the crates above it, cite.
pub mod Held
pub mod Integer
pub mod Dot
pub mod Registers
pub mod Limits
pub mod Gaps
pub mod Spans
pub mod Leaves
pub mod Checks
pub mod Worked
