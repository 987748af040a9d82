pub mod Widths
pub mod Lines
pub mod Shown
