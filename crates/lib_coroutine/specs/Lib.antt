pub mod Arguments
pub mod Resuming
