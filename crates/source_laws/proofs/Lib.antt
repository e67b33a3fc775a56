mod Around
mod Expressions
mod Statements
mod Alone
pub mod Fitting
mod FittingExample
pub mod Meaning
mod SourceExample
mod MeaningExample
mod Counting
pub mod Nearing
mod Within
mod Texts
mod TextParts
mod PartTexts
mod PlacedTexts
mod TokenTexts
mod Limits
mod Joining
pub mod Checked
mod CheckedExample
mod Fields
