pub mod Cabinet
pub mod Keeps
pub mod Example
