pub mod Joining
pub mod Seats
pub mod ConstantSeats
pub mod Patching
pub mod Leading
