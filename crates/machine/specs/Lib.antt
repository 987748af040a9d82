pub mod Values
pub mod Meaning
pub mod Records
pub mod Places
pub mod Evaluate
pub mod Exec
pub mod Run
pub mod Document
