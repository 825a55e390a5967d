pub mod Parts
pub mod Loops
pub mod Steps
pub mod Finishing
pub mod Looks
