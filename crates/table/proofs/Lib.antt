pub mod Elements
pub mod Flags
