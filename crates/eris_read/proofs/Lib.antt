mod Knowing
mod CameBack
pub mod Given
mod Composed
mod Whole
