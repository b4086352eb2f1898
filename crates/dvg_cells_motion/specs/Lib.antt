pub mod Motion
pub mod Pace
pub mod Vectors
pub mod Pulses
pub mod Shown
pub mod Machine
pub mod Times
pub mod Example
