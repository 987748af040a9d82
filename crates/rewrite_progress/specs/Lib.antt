pub mod Effect
pub mod Ground
pub mod Chosen
