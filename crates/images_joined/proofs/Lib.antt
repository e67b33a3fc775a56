mod Goes
pub mod Held
mod Joined
mod Inverted
