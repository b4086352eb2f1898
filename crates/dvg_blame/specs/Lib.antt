pub mod Said
pub mod Refusals
