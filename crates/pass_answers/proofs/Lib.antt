pub mod Laws
pub mod Given
