pub mod Places
pub mod Making
pub mod Stacks
