pub mod Numbers
pub mod Scalarizable
pub mod Family
pub mod Climb
pub mod Fold
pub mod Tables
