pub mod Once
pub mod Folding
pub mod Flags
pub mod Buildless
pub mod EachBlock
pub mod Fitted
