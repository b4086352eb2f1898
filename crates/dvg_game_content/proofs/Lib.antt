mod Frames
mod InstructionLearns
mod Landing
mod RegistersKnown
pub mod Words
pub mod ContentFromBytes
