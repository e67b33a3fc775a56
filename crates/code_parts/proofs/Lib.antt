pub mod Joining
pub mod Written
pub mod Whole
pub mod Ending
pub mod Compiling
pub mod Made
