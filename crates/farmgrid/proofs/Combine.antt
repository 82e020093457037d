pub mod Extents
pub mod PlacedCorners
pub mod CombinedBoxes
pub mod CombinedRecords
pub mod Totals
pub mod Combining
