pub mod Fields
pub mod Reach
