pub mod Rows
pub mod Filled
pub mod Here
