pub mod Calls
pub mod Law
pub mod Resumes
pub mod Images
pub mod SavedImages
pub mod Stands
