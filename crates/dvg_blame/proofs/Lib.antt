pub mod Lists
mod NearNames
mod SaidTokens
pub mod Described
pub mod LentFrames
