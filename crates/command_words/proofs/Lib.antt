pub mod Fronts
pub mod Numbers
pub mod Completing
pub mod Naming
pub mod Asking
