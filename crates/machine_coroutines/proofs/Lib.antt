pub mod Buried
pub mod Ended
pub mod Handed
pub mod Closed
pub mod Stood
pub mod Beginnings
