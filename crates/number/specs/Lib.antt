-- What the contracts of this crate cite, and what a reader must believe.
pub mod Limits
pub mod Arithmetic
pub mod Extremes
pub mod Root
pub mod Search
pub mod Every
pub mod Tabulate
pub mod Answer
pub mod Slice
pub mod Records
pub mod Slots
pub mod Places
pub mod Bytes
pub mod Grid
pub mod Format
pub mod Steps
