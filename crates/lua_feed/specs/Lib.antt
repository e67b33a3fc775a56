pub mod Closes
pub mod Faults
pub mod Feeding
pub mod Limits
pub mod Running
