pub mod Prelude
pub mod Scripts
mod Values
mod Strings
mod Tables
mod Functions
mod Chains
mod Loads
pub mod Resuming
