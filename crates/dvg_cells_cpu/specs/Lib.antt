pub mod Cells
pub mod Cpu
pub mod Refines
pub mod Interrupts
pub mod Widths
