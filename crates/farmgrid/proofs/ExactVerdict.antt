pub mod ExactBoxes
pub mod ExactRecords
pub mod GridViews
pub mod GridBoxes
pub mod ExactByRecords
pub mod FiledApart
