pub mod LoadRows
pub mod NumberRows
pub mod TruthRows
pub mod LoopRows
pub mod BitRows
