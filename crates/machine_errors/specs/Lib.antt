pub mod Raising
pub mod Protected
pub mod Asking
pub mod Handlers
pub mod Throwing
pub mod Catching
