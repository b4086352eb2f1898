mod Spaced
mod GrownLine
mod Counting
mod PutDigits
pub mod StrokeTexts
mod HexPairs
mod EightDigits
mod DigitCounts
mod Intensities
