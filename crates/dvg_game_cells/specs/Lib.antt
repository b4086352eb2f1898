pub mod Whole
pub mod Keeps
pub mod GoesOn
