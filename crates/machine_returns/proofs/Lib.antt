pub mod Woken
pub mod Padded
pub mod Taken
pub mod Tops
pub mod Closed
pub mod Given
pub mod Going
