pub mod Same
pub mod Among
