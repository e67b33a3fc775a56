mod Bests
pub mod Interning
pub mod Meaning
pub mod QuickRows
pub mod Seen
