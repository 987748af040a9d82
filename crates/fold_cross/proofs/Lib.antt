pub mod Uniting
pub mod Builds
pub mod Idle
pub mod Crossing
pub mod Single
