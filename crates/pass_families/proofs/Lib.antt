pub mod Marked
pub mod Line
pub mod Showing
pub mod Parts
pub mod Putting
