-- The laws that the proofs of this crate, and of the crates above it, cite.
pub mod SectionsLeft
pub mod Placed
pub mod Measured
pub mod Rooms
pub mod Batch
pub mod Answers
pub mod Gaps
pub mod Texts
