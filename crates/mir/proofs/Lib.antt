pub mod Numbered
pub mod Numbers
