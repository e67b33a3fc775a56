mod Dressed
mod Moving
mod Answering
mod NewFunctions
mod AllAsks
mod TreeLeft
mod CodeLeft
mod Pending
mod Loading
mod Turning
mod Ticking
mod Ticks
pub mod Endings
mod Opened
pub mod Sides
pub mod Openings
