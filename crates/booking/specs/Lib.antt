pub mod Seeing
pub mod Settling
