pub mod Rows
pub mod Accepted
pub mod Lengths
pub mod History
