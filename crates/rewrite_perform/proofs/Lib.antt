pub mod Lows
pub mod Performing
pub mod Counting
