pub mod Rows
pub mod Law
pub mod Primitives
