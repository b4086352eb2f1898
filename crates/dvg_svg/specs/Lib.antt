pub mod Svg
pub mod Parts
