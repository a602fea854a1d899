pub mod Comes
pub mod Numbering
pub mod Reading
pub mod Turns
pub mod Kept
pub mod FileRead
