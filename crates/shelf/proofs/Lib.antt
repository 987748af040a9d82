pub mod Both
pub mod Flag
pub mod Recorded
