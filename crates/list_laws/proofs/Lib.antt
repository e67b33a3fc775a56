pub mod Values
pub mod Items
pub mod Ends
pub mod Tests
pub mod Held
