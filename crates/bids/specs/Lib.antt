pub mod Kinds
pub mod Registers
pub mod Checks
pub mod Quantities
pub mod Profiles
pub mod Blocks
pub mod Flexibles
