pub mod Tables
pub mod Loops
pub mod ByName
pub mod Builds
