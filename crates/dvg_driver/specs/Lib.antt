-- What public contracts cite.
pub mod Script
pub mod Place
pub mod Stands
pub mod Laws
-- What the driver's own model cites.
pub mod Phases
pub mod Saved
