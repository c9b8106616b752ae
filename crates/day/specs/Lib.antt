pub mod States
pub mod Book
pub mod Days
pub mod Runs
