pub mod Number
pub mod Shelved
