pub mod Encode
pub mod Decode
pub mod Index
pub mod WellFormed
