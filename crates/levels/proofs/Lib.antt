pub mod Loops
pub mod OnLevels
pub mod StepWorth
