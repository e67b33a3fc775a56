pub mod Paying
pub mod Back
pub mod Rounds
pub mod Iterated
