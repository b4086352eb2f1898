mod TextsGrow
mod GivenRows
mod LaidBytes
mod LaidCuttings
mod RomBytes
mod TableLines
pub mod SketchesLaid
mod ChecksSaid
mod EndsDrawn
mod FramesDrawn
pub mod RamLaid
mod TimedRun
mod PictureTimes
mod DraftsRead
mod RomRead
mod WholeDrafts
