pub mod Builds
pub mod Readings
pub mod Laws
