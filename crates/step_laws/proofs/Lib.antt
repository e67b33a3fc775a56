pub mod Free
pub mod Unpaid
pub mod Small
pub mod Ready
pub mod Joins
pub mod Stepping
