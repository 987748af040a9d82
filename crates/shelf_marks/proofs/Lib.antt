pub mod Numbered
pub mod Scanning
pub mod Storing
pub mod Bases
pub mod Dests
pub mod Backwards
