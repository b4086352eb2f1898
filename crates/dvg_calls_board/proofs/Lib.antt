pub mod Ram
mod Published
pub mod System
mod Calls
mod Machine
mod Hindsight
pub mod Waiting
mod Returns
pub mod Example
