pub mod Shapes
pub mod Refusals
pub mod Answers
