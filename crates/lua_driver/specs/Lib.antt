pub mod Turns
pub mod Here
pub mod Returning
pub mod Words
