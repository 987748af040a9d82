pub mod Places
pub mod EachKind
pub mod Instruction
pub mod Loops
pub mod Values
