pub mod Areas
pub mod Memory
pub mod Grown
pub mod Laws
pub mod Banks
pub mod Filled
