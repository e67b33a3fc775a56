pub mod Sound
pub mod Safe
pub mod Laws
