pub mod Play
pub mod Open
pub mod Interrupt
pub mod Stays
pub mod Games
pub mod SomeGame
