mod Stepping
pub mod Decoded
pub mod Alike
pub mod Closing
mod Nearer
pub mod Recalled
