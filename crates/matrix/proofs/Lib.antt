-- The laws that the proofs of this crate, and of the crates above it, cite.
pub mod Literals
pub mod Same
pub mod Composed
pub mod Emptiness
pub mod EitherWay
pub mod Ordered
pub mod Settled
pub mod Axes
pub mod EveryOrder
pub mod Signs
pub mod Length
pub mod Worked
pub mod Given
