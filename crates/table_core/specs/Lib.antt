pub mod Value
pub mod FlatKey
pub mod Places
pub mod Indexed
pub mod Table
