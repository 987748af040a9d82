pub mod Decode
pub mod Encode
pub mod Index
pub mod Facts
