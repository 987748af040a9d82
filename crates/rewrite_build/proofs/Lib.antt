pub mod Writing
pub mod Heads
pub mod Shape
pub mod Rebuilding
