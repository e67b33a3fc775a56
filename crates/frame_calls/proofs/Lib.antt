pub mod Held
pub mod Chained
pub mod Waking
pub mod FrameRows
pub mod Closed
mod Calls
pub mod Called
pub mod Listed
mod TakenVarargs
pub mod Takers
mod BelowTop
mod Returned
pub mod ListReturned
mod OpenLists
pub mod CrossedOver
