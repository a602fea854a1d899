pub mod Columns
pub mod Whole
