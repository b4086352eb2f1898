pub mod Memory
pub mod Board
pub mod Fetches
pub mod Clocks
pub mod Logs
pub mod Answers
pub mod Shown
pub mod Example
