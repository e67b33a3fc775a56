pub mod Pieces
mod Joins
mod Copies
