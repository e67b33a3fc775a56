pub mod Ended
pub mod Chained
pub mod Meant
pub mod Taken
pub mod Resumed
mod Unchanged
mod Standing
mod Stood
