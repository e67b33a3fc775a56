mod Fields
mod Imaged
mod Keys
mod Made
pub mod Resumed
pub mod Rooted
mod Taken
