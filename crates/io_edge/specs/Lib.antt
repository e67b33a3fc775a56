pub mod Causes
pub mod Content
pub mod Host
pub mod Lines
pub mod Parts
pub mod Schedules
