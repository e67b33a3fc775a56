mod Finding
mod Recalled
pub mod Reading
pub mod Equal
mod Tables
pub mod Growing
pub mod Numbered
mod Opened
mod Walk
pub mod Added
pub mod Listed
mod Placed
mod NextLine
pub mod Resumed
pub mod Captured
mod OpenedCell
pub mod Closed
pub mod TextsThere
