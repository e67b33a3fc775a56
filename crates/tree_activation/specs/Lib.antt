pub mod Work
pub mod Asking
pub mod Expressions
pub mod Jumps
pub mod Statements
pub mod Activation
