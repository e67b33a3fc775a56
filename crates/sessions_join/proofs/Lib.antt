pub mod Waiting
pub mod Joined
