pub mod Places
pub mod Shapes
pub mod DriverAfterLife
pub mod OneAction
