pub mod Hours
pub mod Drafts
