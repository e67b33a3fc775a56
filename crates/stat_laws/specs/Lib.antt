pub mod Scoped
pub mod Fits
pub mod Law
