pub mod Law
pub mod Fetches
