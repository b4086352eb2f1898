mod Offers
pub mod Keeps
