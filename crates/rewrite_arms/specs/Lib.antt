pub mod Decided
