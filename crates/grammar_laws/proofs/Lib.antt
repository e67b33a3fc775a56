pub mod Fronts
pub mod Asking
mod FormKeeping
pub mod Operands
mod FormParts
pub mod FormReadings
pub mod PlacedParts
pub mod PlacedForms
mod Claims
pub mod Pieces
mod SizeKeeping
mod Lists
mod Words
mod Expressions
mod Blocks
mod Statements
mod SizeReadings
pub mod Bytes
mod LineKeeping
mod LineParts
mod LineReadings
pub mod PlacedSizes
pub mod PlacedBlocks
mod PlacedLines
pub mod Rules
pub mod WholeSizes
pub mod Walk
pub mod Nesting
pub mod NestingParts
