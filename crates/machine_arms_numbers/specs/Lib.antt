pub mod Numbers
pub mod Leading
