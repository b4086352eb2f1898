pub mod Texts
pub mod Pictures
pub mod Undrawn
pub mod Svgs
