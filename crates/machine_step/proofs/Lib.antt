pub mod ByForm
pub mod Awake
pub mod Steps
pub mod Again
