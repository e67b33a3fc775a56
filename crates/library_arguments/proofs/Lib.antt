mod Places
mod Limits
pub mod Readings
