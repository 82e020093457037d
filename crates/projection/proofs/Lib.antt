-- The laws that the proofs of this crate cite.
pub mod Literals
pub mod Recovery
pub mod Confirmed
pub mod Worked
pub mod Records
pub mod Largest
pub mod NearZero
pub mod CloseEnough
