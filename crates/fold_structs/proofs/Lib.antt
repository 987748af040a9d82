pub mod Given
pub mod Conditions
