pub mod Heap
pub mod Events
pub mod Outcome
pub mod Chains
pub mod Store
pub mod Concat
pub mod Operation
pub mod Law
