mod Hand
mod Vectors
mod MoreVectors
mod LoopVectors
mod LuacListings
mod Allowed
mod ClosedCells
mod ScopeListings
