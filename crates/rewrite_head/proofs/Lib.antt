pub mod Bits
pub mod Written
pub mod Front
