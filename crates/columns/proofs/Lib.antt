pub mod Entry
pub mod ReadBack
pub mod Submitted
pub mod Tables
