pub mod Letters
pub mod Ratings
pub mod Issuers
pub mod Found
pub mod Parsing
