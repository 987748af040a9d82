pub mod Passing
pub mod Depth
pub mod Whole
pub mod Tuples
pub mod Turn
pub mod Decide
pub mod Found
