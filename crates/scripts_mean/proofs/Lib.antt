mod Broken
mod Names
mod Preludes
pub mod Scripts
