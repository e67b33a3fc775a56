pub mod Setting
pub mod Placed
