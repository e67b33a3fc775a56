pub mod Runs
pub mod Balanced
pub mod Tries
pub mod Parts
pub mod Readings
pub mod Told
pub mod Starts
