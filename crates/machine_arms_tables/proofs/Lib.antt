mod Settling
mod Compared
mod Inheriting
mod Leading
mod FieldRows
mod FieldNames
mod MakingRows
mod SelfRow
mod Operands
pub mod Steps
