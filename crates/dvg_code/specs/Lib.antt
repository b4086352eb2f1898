pub mod Words
pub mod Ranges
pub mod Fields
pub mod Spelling
pub mod Cutting
pub mod Listing
pub mod Laws
pub mod Acts
