pub mod Walks
pub mod Levels
