pub mod Machine
pub mod Hindsight
pub mod Example
