pub mod Memory
pub mod Ends
pub mod Endings
pub mod Traces
pub mod Following
pub mod Tracing
pub mod Units
pub mod Laws
