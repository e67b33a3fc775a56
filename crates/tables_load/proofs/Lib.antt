mod NewKeys
mod Keys
pub mod Loaded
mod Saved
