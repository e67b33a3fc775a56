pub mod Saving
pub mod Roots
pub mod Made
