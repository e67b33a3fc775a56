pub mod Numbers
pub mod Bounds
pub mod Operands
pub mod Rows
