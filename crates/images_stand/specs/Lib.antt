pub mod Standing
pub mod Readers
pub mod Sessions
