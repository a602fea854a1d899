pub mod Scan
pub mod Pieces
pub mod Turns
pub mod Places
pub mod Filling
