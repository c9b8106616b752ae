pub mod Laws
pub mod Searches
pub mod Worth
pub mod Ranges
pub mod Margins
pub mod Gains
pub mod Theorems
