-- What the contracts of this crate cite, and what a reader must believe. No float occurs.
pub mod ExactPoint
pub mod BBoxCall
pub mod Vertex
pub mod Steps
