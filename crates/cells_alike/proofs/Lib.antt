mod Joint
mod Moving
mod Answering
mod Storing
mod Turning
mod Loading
mod Ticking
mod Runs
pub mod Begun
pub mod Letter
