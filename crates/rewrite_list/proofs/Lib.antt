pub mod Joining
pub mod Building
pub mod Valuing
pub mod Copying
pub mod Numbers
