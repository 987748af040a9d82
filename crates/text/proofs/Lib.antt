pub mod Examples
pub mod Laws
pub mod Writing
