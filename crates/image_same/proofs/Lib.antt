pub mod Alike
pub mod Order
mod InOrder
