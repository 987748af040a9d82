pub mod Rows
pub mod Values
