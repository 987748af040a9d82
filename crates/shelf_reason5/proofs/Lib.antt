pub mod Buffer
pub mod Walk
pub mod Blocks
