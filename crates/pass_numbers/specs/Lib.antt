pub mod Choices
pub mod Ten
pub mod Totals
