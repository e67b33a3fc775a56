pub mod Step
pub mod Places
