pub mod Beyond
pub mod Keeping
pub mod Read
pub mod InPlace
mod Primitive
mod TailPrimitive
