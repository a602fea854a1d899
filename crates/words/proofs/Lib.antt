pub mod Digits
pub mod Encoded
pub mod ReadBack
