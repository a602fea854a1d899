pub mod Answer
pub mod Pair
pub mod Article
