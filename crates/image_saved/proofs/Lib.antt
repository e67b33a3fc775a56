pub mod Equal
pub mod Names
mod Saving
