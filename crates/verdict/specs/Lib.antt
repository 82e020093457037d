-- What the contracts of this crate cite, and what a reader must believe.
pub mod Plane
pub mod Ray
pub mod PlaneCalls
pub mod RayCalls
pub mod BBox
pub mod BBoxCalls
pub mod View
pub mod Rows
pub mod Frustum
pub mod FrustumCalls
pub mod PlanesBehind
pub mod PlanesMeaning
pub mod FiniteNumbers
pub mod SideBySide
pub mod Marked
pub mod WorkedScreens
pub mod Steps
