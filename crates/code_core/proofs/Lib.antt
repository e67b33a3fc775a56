pub mod Opcodes
pub mod PrototypeLemmas
pub mod CheckedLemmas
pub mod Examples
pub mod FieldLemmas
