pub mod Past
pub mod Moves
pub mod Runs
