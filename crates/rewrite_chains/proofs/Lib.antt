pub mod Fields
pub mod Steps
pub mod Walks
pub mod Ends
pub mod Stored
pub mod Booleans
