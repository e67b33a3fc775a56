pub mod LineLemmas
pub mod BracketLemmas
pub mod WordLemmas
pub mod StringLemmas
pub mod TokenLemmas
pub mod SourceLemmas
