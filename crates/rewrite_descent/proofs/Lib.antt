pub mod Numbering
pub mod Deepening
pub mod Enough
pub mod Whole
pub mod Descending
pub mod Going
pub mod Top
pub mod Examples
