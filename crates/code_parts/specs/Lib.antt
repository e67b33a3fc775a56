pub mod Bodies
pub mod Assembled
pub mod Scopes
