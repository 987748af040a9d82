pub mod Fields
pub mod Scan
