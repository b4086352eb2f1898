pub mod JudgedTold
pub mod Lines
pub mod Ordered
pub mod PlacesTold
