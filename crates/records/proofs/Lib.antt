pub mod Bytes
pub mod Rows
pub mod Places
pub mod Rewriting
pub mod Judged
pub mod Totals
pub mod Lent
pub mod Booked
