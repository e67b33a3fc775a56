pub mod Comparing
pub mod Leading
pub mod Listing
pub mod Operands
pub mod Patches
