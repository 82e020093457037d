-- What the contracts of this crate cite, and what a reader must believe.
pub mod Constants
pub mod Vec
pub mod Matrix
pub mod Transform
pub mod Inverse
pub mod Range
pub mod MatrixCalls
pub mod RangeCalls
pub mod Steps
pub mod Signs
