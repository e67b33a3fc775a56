pub mod Objects
pub mod Opening
pub mod Filling
