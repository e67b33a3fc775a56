pub mod Broken
pub mod Scripts
