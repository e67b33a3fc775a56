pub mod Scripts
mod Loops
mod Functions
mod Errors
mod Metatables
mod Coroutines
pub mod Runs
mod Limits
mod Endless
mod StackOverflow
mod Room
