pub mod Lists
pub mod Fits
pub mod Agrees
pub mod Reads
pub mod Reason
pub mod Answer
