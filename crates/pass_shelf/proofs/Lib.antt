pub mod Dropped
pub mod Shelf
