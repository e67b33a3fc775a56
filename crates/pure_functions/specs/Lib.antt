pub mod Answers
pub mod Functions
pub mod Math
pub mod QuickAnswers
pub mod Shapes
