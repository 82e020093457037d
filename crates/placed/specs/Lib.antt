-- What the contracts of this crate cite, and what a reader must believe.
pub mod Numbers
pub mod Placement
pub mod BBoxCall
pub mod Steps
