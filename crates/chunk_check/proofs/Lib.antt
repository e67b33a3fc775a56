pub mod Exact
pub mod PlaceLemmas
pub mod WalkLemmas
