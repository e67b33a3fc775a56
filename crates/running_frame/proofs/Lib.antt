mod Words
pub mod Places
mod OnStack
mod Advanced
mod OpenRead
mod FoundFields
mod Passed
mod Remembered
mod Stored
mod Handlers
mod FilledOne
mod Left
mod Apart
mod Taken
mod Crossed
