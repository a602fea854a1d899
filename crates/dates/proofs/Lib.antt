pub mod Years
pub mod Tested
pub mod Days
pub mod Anniversaries
pub mod Dates
pub mod Coded
pub mod Texts
pub mod Computed
