pub mod Bytes
pub mod Faults
pub mod Searches
pub mod Pieces
pub mod Quick
