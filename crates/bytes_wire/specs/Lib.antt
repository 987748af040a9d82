pub mod Parse
pub mod Number
pub mod Value
pub mod WellFormed
pub mod ValueKind
