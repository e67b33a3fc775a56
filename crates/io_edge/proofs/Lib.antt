pub mod LineLemmas
pub mod Options
pub mod PartLemmas
