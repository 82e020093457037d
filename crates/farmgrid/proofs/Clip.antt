pub mod Below
pub mod RangeCorners
pub mod ClipSides
pub mod ClipSpace
pub mod ClipOutside
pub mod ClipPlanes
