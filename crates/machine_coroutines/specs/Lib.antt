pub mod Burying
pub mod Ends
pub mod Closings
pub mod Standing
pub mod Beginning
