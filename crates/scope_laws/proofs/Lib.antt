pub mod Parts
pub mod Labels
pub mod Rules
mod Named
pub mod Views
mod Names
pub mod Main
mod Example
