pub mod Sorts
pub mod Graph
pub mod Extend
pub mod One
pub mod Blocks
pub mod Placed
