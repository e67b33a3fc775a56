pub mod Objects
pub mod Permanents
pub mod Inverse
pub mod Walk
pub mod Cells
pub mod Frames
pub mod Numbering
