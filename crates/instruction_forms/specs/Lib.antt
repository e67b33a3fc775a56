pub mod Forms
pub mod Choice
pub mod Waiting
