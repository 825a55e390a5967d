pub mod Marks
pub mod Ordered
pub mod Words
pub mod Differences
