pub mod Faults
pub mod Reader
pub mod Says
pub mod Parts
pub mod Code
pub mod Rows
pub mod Reads
