pub mod Game
pub mod Circuit
pub mod Laws
pub mod Shown
pub mod Around
pub mod Pictures
