pub mod Rate
pub mod RateTable
