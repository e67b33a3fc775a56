mod Causes
mod Closing
pub mod Fed
pub mod Limits
mod Runs
pub mod Starting
mod Texts
mod Onward
