pub mod Decode
pub mod Encode
pub mod Walk
pub mod ProjectionKind
