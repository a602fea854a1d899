pub mod Written
pub mod Prints
pub mod Lines
pub mod Judged
pub mod Computed
