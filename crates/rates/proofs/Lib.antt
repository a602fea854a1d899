pub mod Periods
pub mod FlatRates
pub mod Terms
pub mod RateTable
pub mod Rates
