pub mod Bodies
pub mod Levels
pub mod Labels
pub mod Hidden
pub mod Weight
pub mod FunctionCount
pub mod Asked
