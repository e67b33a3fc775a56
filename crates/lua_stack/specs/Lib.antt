pub mod Frames
pub mod View
pub mod Reading
pub mod Lending
pub mod Handing
