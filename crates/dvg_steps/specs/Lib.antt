pub mod Steps
pub mod Drafts
