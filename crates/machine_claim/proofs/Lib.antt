pub mod Typed
pub mod Accepted
pub mod Defined
pub mod Facts
pub mod Answered
pub mod Theorem
