pub mod Steps
pub mod Turns
pub mod Small
pub mod Law
