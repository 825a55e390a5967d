pub mod Reached
pub mod Answer
pub mod Rows
pub mod State
pub mod Following
pub mod Tables
pub mod Numbers
