pub mod Parts
pub mod Stores
pub mod Targets
pub mod Testing
