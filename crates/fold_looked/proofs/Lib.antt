pub mod Behind
pub mod Looking
