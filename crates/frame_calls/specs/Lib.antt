pub mod Standing
pub mod Arguments
pub mod Calling
pub mod Listing
pub mod Returning
pub mod Opening
pub mod Crossing
