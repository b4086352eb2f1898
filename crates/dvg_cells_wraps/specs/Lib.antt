pub mod Wraps
pub mod Refines
pub mod Example
