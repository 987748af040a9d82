pub mod Decode
pub mod Rows
pub mod Encode
pub mod WellFormed
pub mod Places
