pub mod Structs
pub mod Built
