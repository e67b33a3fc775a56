pub mod Places
pub mod Local
pub mod Here
pub mod Calls
