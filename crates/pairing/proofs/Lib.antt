pub mod Used
pub mod Least
pub mod Parts
