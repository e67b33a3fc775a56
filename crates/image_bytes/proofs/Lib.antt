pub mod Back
pub mod ImageBack
mod Examples
