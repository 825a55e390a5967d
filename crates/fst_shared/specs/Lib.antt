pub mod Shared
pub mod Numbers
