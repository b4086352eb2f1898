pub mod Frames
pub mod Words
pub mod Brings
pub mod Written
pub mod Law
