pub mod Reading
pub mod Naming
