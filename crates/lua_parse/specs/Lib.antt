pub mod Words
pub mod Moves
pub mod Grammar
pub mod Reading
pub mod Answers
