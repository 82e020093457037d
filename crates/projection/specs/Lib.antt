-- What the contracts of this crate cite, and what a reader must believe.
pub mod Projection
pub mod ProjectionCalls
pub mod Recovery
