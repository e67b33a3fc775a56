pub mod Means
pub mod Asks
pub mod Runs
