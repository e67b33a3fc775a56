pub mod Meeting
pub mod Named
pub mod Visiting
pub mod Framed
pub mod Pairs
