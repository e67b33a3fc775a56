pub mod Rows
pub mod Sound
pub mod Closes
pub mod Switched
pub mod Resumes
pub mod Begun
