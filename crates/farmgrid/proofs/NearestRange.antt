pub mod RangeDistance
pub mod Nearest
