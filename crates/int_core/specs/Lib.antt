pub mod Arithmetic
pub mod Numeral
pub mod Rows
pub mod Value
pub mod Limits
pub mod Heap
pub mod Operations
pub mod Ask
