pub mod Opcode
pub mod Instruction
pub mod Prototype
pub mod PrototypeCode
pub mod PrototypeView
pub mod Fields
pub mod Writable
pub mod Check
