pub mod Lists
pub mod Visits
pub mod Parts
pub mod Making
mod Examples
