pub mod Chunks
pub mod Places
pub mod Kept
pub mod Reach
pub mod Returned
