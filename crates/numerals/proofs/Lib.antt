pub mod Digits
pub mod Written
pub mod Exactly
pub mod Reading
pub mod Computed
