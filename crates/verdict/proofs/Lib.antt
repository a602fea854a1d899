pub mod Judged
pub mod Checked
