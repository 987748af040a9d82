pub mod Typing
pub mod Static
pub mod Statement
