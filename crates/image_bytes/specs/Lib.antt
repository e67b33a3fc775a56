pub mod Format
pub mod Bytes
pub mod ReadBack
