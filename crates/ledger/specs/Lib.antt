pub mod Trades
pub mod Balance
