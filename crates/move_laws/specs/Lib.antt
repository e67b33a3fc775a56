pub mod Memory
pub mod Law
