pub mod Values
pub mod Numbers
pub mod Rebuilding
pub mod Lows
pub mod Behind
pub mod Returning
pub mod Examples
