-- What the contracts of this crate cite, and what a reader must believe. No float occurs.
pub mod Plane
pub mod Segment
pub mod SegmentCall
pub mod Steps
