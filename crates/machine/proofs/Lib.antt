pub mod Words
pub mod ValueRows
pub mod OutsideRows
pub mod RunRows
