pub mod Preludes
pub mod Loading
