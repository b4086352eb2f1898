-- What only private contracts cite.
pub mod Stepping
pub mod Leaving
pub mod Entries
pub mod Logging
pub mod Running
