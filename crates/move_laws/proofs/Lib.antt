pub mod Places
pub mod Running
pub mod Rows
pub mod Order
pub mod Sounds
pub mod Standing
pub mod Kept
pub mod Valid
