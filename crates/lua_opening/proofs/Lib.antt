pub mod Filling
pub mod Names
pub mod Surroundings
pub mod Preludes
pub mod Worlds
pub mod Constants
pub mod RowByRow
pub mod SoundOpening
mod Told
