pub mod Lines
pub mod Verdicts
pub mod Shows
pub mod LogVerdicts
pub mod MomentVerdicts
pub mod RunLines
pub mod Svg
pub mod Numbering
