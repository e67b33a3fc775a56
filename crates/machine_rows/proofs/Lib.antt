pub mod Reading
pub mod Going
pub mod Extra
pub mod Stored
