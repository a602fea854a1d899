pub mod Sound
pub mod Complete
