pub mod Opened
pub mod Functions
