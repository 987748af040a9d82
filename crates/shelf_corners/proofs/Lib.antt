pub mod Open
pub mod Table
pub mod Neighbours
pub mod Printed
pub mod Second
pub mod SecondBounds
pub mod Judged
pub mod JudgedEdges
