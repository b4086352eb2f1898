pub mod Processor
pub mod Code
pub mod Board
pub mod Kinds
pub mod Machine
pub mod Checker
pub mod Brings
pub mod Tables
