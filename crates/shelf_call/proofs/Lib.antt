pub mod Calls
pub mod Listed
