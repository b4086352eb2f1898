pub mod FieldsSpell
pub mod Rows
pub mod Beginnings
pub mod Unique
pub mod Canonical
pub mod Cuttings
pub mod Listings
pub mod BytesOfWords
