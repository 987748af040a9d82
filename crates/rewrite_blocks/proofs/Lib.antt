pub mod Ends
pub mod Whole
pub mod Walks
pub mod Laying
pub mod Rounds
