pub mod Prelude
pub mod Loaded
pub mod Same
pub mod Keys
pub mod Resuming
