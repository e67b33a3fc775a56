pub mod Measure
pub mod Falls
pub mod Laws
