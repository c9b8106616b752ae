pub mod Prices
pub mod Lots
pub mod Numbers
