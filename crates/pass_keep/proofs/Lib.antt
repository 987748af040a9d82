pub mod Still
pub mod Untouched
