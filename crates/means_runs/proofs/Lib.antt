pub mod Turns
pub mod Lines
pub mod First
pub mod Runs
pub mod Opened
