pub mod Received
pub mod Written
pub mod Named
