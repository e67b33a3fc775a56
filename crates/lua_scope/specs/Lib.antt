pub mod Blocks
pub mod Indexed
pub mod Met
