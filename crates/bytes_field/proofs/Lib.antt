pub mod Laws
pub mod Sizes
pub mod Atom
pub mod Listing
pub mod Rows
