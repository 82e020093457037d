-- The laws that the proofs of this crate, and of the crates above it, cite.
pub mod Crossing
pub mod Cramer
pub mod Directions
pub mod Onward
pub mod OnePlace
pub mod Machine
pub mod Vertices
pub mod Faces
pub mod Constraints
pub mod Step
pub mod Reading
pub mod Seeing
pub mod Tried
pub mod Farthest
pub mod Taken
pub mod Calls
