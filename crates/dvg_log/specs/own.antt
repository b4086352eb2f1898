-- What only private contracts and invariants cite.
pub mod Kept
pub mod Owned
