pub mod Marks
pub mod Whole
pub mod Writable
pub mod Makers
pub mod Arms
pub mod Globals
pub mod Written
