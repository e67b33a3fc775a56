mod Heaps
mod Looks
mod Library
mod Moves
mod Rows
pub mod Runs
pub mod Opening
