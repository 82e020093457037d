pub mod BoxReach
pub mod BoxPlane
pub mod BoxInView
