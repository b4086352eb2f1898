pub mod Map
pub mod Roms
pub mod GrownRom
pub mod Banks
pub mod OneByteThroughout
