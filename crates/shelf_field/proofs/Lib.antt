pub mod Lines
pub mod Single
pub mod Standing
pub mod Passing
