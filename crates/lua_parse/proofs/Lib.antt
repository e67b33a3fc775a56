pub mod ReadingLemmas
pub mod StopLemmas
pub mod Steps
pub mod LevelLemmas
pub mod ChunkLemmas
pub mod Computing
pub mod Examples
