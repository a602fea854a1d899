pub mod Cover
pub mod Books
pub mod Range
