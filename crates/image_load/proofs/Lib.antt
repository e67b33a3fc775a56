pub mod Copies
mod Two
mod Session
