pub mod Hours
pub mod Widths
pub mod Falling
pub mod Shares
