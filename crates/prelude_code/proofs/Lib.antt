pub mod Preludes
