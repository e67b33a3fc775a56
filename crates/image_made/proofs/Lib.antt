pub mod Opened
pub mod Ranks
pub mod Steps
pub mod Tops
pub mod Values
