pub mod Ordered
pub mod Holdings
pub mod Reckoned
pub mod One
