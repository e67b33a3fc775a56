pub mod Frame
pub mod Fields
pub mod Making
pub mod Leading
pub mod Orders
pub mod Named
