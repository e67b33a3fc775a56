pub mod TableLemmas
pub mod ValueLemmas
pub mod BorderLemmas
pub mod PlaceLemmas
pub mod NumberedLemmas
pub mod SplitLemmas
pub mod DropLemmas
