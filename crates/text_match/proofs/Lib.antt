mod Readings
mod Needles
mod OrdinaryPatterns
mod Passing
