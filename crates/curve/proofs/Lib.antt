pub mod Searches
pub mod Worths
pub mod Sums
pub mod Parts
pub mod Bests
pub mod Hills
pub mod Margins
pub mod Costs
