pub mod Sizes
pub mod Constants
pub mod Functions
pub mod Registers
