pub mod Choice
pub mod Tables
pub mod Order
