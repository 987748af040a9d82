pub mod Numbers
pub mod Totals
