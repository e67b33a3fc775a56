pub mod Counts
pub mod Fitted
pub mod FrameFits
pub mod Keys
