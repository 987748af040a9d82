pub mod Numbers
pub mod Fitted
