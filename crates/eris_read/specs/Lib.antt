pub mod Unpersist
pub mod Known
pub mod Loaded
