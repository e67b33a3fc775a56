pub mod Fitting
pub mod Meaning
pub mod Nearing
pub mod Checked
pub mod Fields
