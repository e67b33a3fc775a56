pub mod Loads
pub mod Both
pub mod Session
