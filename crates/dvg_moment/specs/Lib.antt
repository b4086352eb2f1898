pub mod Moment
pub mod Played
pub mod Judging
pub mod own
