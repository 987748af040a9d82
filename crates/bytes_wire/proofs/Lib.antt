pub mod Laws
pub mod Inv
pub mod RoundTrip
pub mod Canon
pub mod Numbered
pub mod Chunks
