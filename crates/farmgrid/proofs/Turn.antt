pub mod TurnedDot
pub mod Turned
pub mod BoxTurned
pub mod Turns
pub mod ExactTurned
