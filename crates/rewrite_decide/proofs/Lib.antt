pub mod Rest
pub mod Stepping
pub mod Carried
