pub mod Words
pub mod Classes
pub mod Brackets
pub mod Utf8
pub mod Strings
pub mod Lexical
pub mod Inner
pub mod Answers
