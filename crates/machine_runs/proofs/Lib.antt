pub mod Runs
pub mod Waking
pub mod Opening
pub mod Sessions
pub mod Yields
pub mod MainWaits
