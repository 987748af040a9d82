pub mod Fields
pub mod Asked
pub mod Passes
