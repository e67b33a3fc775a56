pub mod Header
pub mod Reading
pub mod Views
pub mod Spelling
pub mod Grammar
pub mod Laws
