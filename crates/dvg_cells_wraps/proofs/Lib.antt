pub mod Steps
pub mod WrapsSincePowerUp
pub mod Example
