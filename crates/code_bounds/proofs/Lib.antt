pub mod Counts
mod ShortTests
mod ShortExpressions
mod Conditions
pub mod ShortStatements
pub mod ShortBodies
pub mod Constants
pub mod Functions
mod Tops
mod Pieces
mod KeyedFields
mod ItemPieces
mod ConstantPieces
mod Expressions
pub mod Holding
mod Room
mod Simple
mod FieldStores
mod Targets
mod Assigning
mod Jumping
pub mod Statements
pub mod Body
mod Counted
pub mod Widths
mod Example
