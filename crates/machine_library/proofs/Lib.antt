pub mod Moving
pub mod Consulting
mod Printed
