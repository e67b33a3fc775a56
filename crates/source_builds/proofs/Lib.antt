pub mod Knowing
mod OneReading
pub mod Lookups
