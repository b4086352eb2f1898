pub mod Progress
pub mod PrefixDecides
pub mod RomLines
pub mod EntryByEntry
pub mod ZerosAreImage
pub mod TracesPlayed
pub mod DrawnPlayed
pub mod Reported
mod OneVerdict
pub mod PicturesPlayed
