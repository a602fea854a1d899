pub mod Tests
pub mod Firsts
pub mod Entries
pub mod Tables
pub mod Sums
pub mod Order
pub mod Passed
pub mod Overwrite
