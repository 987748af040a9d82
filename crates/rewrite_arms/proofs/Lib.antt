pub mod Sources
pub mod Actions
pub mod Structs
pub mod Arms
pub mod Own
