pub mod Formed
pub mod Forms
pub mod Counted
pub mod Each
pub mod Lines
pub mod Sizes
