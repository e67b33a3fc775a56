pub mod Measure
mod Falling
pub mod Steps
mod Asks
mod Sizes
mod Moves
mod Ends
