pub mod Cells
pub mod Core
pub mod Shown
pub mod Refines
pub mod Tells
pub mod Example
