pub mod MoreAdded
pub mod ObjectsAdded
mod OpenListed
pub mod ObjectsPlaced
mod CoroutinesMade
