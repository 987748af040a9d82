pub mod Flags
pub mod Number
