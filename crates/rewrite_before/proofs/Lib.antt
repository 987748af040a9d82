pub mod Fields
pub mod Standing
pub mod Writing
pub mod Returning
pub mod Effects
pub mod Whole
pub mod Calling
pub mod Storing
