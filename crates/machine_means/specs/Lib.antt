pub mod Joined
pub mod Laws
pub mod Works
pub mod Stands
