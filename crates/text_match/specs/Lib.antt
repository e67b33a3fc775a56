pub mod Told
pub mod Ordinary
