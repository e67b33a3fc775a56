pub mod Tails
pub mod Drafts
pub mod Declares
pub mod Forms
pub mod Whole
