pub mod Machines
pub mod Shifts
pub mod RegistersFit
pub mod Clocks
pub mod CoreSincePowerUp
mod Example
pub mod Vectors
mod ClockVectors
mod Histories
pub mod Scaled
pub mod Tells
