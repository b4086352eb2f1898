pub mod Watching
pub mod Faults
pub mod Serving
