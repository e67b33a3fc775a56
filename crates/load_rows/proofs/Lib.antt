pub mod Loads
mod LoadingVectors
