pub mod Units
pub mod Asking
pub mod Turns
