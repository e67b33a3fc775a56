pub mod Fronts
pub mod CodeTold
pub mod RowKeys
pub mod Sorts
pub mod RowFronts
pub mod Wholes
