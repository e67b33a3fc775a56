pub mod Operands
pub mod Following
pub mod Joining
pub mod WholeTexts
pub mod Copying
pub mod Operating
pub mod Computing
