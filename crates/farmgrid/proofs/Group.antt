pub mod Groups
pub mod Grouping
pub mod Mixed
pub mod GroupOut
pub mod KeptByCalls
pub mod PrintedZeros
