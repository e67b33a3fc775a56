pub mod Entering
pub mod Calling
pub mod Leaving
pub mod Preparing
pub mod Waiting
pub mod Tails
pub mod Given
