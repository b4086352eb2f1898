pub mod Cores
pub mod System
pub mod Wires
pub mod Board
pub mod AnswersProcessor
pub mod Example
mod Vectors
mod ClockVectors
pub mod Lines
