pub mod Blocks
pub mod Map
pub mod Whole
pub mod BackBlocks
pub mod BackMap
pub mod BackWhole
pub mod Example
