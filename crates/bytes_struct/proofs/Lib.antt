pub mod Placed
pub mod Seek
pub mod Laws
pub mod Examples
