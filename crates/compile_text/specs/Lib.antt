pub mod Faults
pub mod Source
