pub mod Running
pub mod Knowing
pub mod Around
