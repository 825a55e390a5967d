pub mod Grammar
pub mod Nesting
pub mod TypeReading
pub mod Derives
pub mod Filled
pub mod Views
pub mod Steps
