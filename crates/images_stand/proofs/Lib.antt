mod Walks
mod Items
mod Records
mod Whole
mod Kept
mod Fits
mod Stand
mod Reading
pub mod Session
