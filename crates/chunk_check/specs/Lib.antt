pub mod Faults
pub mod Opcodes
pub mod Lines
pub mod Finds
pub mod Answers
