-- What only private contracts and invariants cite.
pub mod Counting
pub mod Firsts
pub mod Frames
pub mod Growth
pub mod LowBytes
pub mod Pairs
pub mod Straight
pub mod Sweeps
pub mod Tables
pub mod Ways
