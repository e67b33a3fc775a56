pub mod View
pub mod Law
