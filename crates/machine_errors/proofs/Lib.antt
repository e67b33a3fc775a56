pub mod Texts
pub mod Leaving
pub mod Answering
pub mod Asked
pub mod Handled
pub mod Calls
pub mod Thrown
pub mod Caught
