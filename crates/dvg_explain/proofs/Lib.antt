pub mod LinesLooked
pub mod CutWords
pub mod OfInputs
pub mod FramesAnswered
