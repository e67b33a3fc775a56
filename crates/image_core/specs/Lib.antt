pub mod Image
pub mod Visit
pub mod Records
pub mod Numbers
pub mod Loading
