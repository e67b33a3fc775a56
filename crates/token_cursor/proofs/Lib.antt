pub mod CursorLemmas
pub mod OperatorLemmas
