pub mod Permanents
pub mod Prelude
pub mod Saved
pub mod Stored
pub mod Laws
