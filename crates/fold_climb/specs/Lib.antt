pub mod Edges
pub mod Scanned
pub mod Decided
