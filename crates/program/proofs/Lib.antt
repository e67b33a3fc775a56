pub mod DeviceLemmas
pub mod ChunkLemmas
pub mod CheckLemmas
pub mod CompileLemmas
pub mod CodeLemmas
pub mod MeaningLemmas
mod Raised
mod Limited
pub mod Endings
mod LimitLemmas
pub mod Leaving
pub mod ImageLemmas
mod Keeping
pub mod RunLemmas
pub mod ResumeLemmas
pub mod WorkLemmas
pub mod ReportLemmas
pub mod Lines
pub mod Meant
