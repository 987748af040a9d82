pub mod Elsewhere
pub mod Noting
pub mod Blocks
