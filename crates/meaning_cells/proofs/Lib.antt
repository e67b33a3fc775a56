pub mod Lists
mod Opened
pub mod Relation
mod Facts
pub mod Steps
