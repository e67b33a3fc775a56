mod Numbered
pub mod Reading
mod Unspent
