mod Lists
mod Paired
mod Covered
pub mod Loaded
