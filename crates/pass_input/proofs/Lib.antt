pub mod Fit
pub mod TypesEnd
pub mod Accepted
pub mod Copied
