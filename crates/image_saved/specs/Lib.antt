pub mod Permanents
pub mod Saved
