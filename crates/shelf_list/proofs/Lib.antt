pub mod Tests
pub mod Standing
