pub mod Here
pub mod Places
pub mod Going
pub mod Rows
