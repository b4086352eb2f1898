pub mod OneEnd
pub mod OneStroke
pub mod OneWordMore
pub mod TracerTells
pub mod Rows
pub mod Silent
pub mod RecordedMoves
