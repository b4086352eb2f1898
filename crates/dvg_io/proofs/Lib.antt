pub mod KnownBytesChain
pub mod Inputs
pub mod WrittenSoFar
pub mod Unfound
pub mod Served
pub mod StrokeLines
