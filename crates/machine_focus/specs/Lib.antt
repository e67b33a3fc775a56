pub mod Focus
pub mod Law
