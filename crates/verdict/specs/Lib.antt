pub mod Judges
pub mod Scratch
