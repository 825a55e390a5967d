pub mod Step
pub mod Dual
pub mod Moves
pub mod Equal
pub mod Histories
pub mod Residuals
pub mod Stamps
