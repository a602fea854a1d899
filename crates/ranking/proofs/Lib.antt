pub mod Before
pub mod Place
pub mod Placing
pub mod Ranking
