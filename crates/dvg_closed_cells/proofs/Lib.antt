pub mod Closed
pub mod Powering
