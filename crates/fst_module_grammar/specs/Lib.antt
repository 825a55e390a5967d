pub mod Grammar
pub mod Nesting
pub mod TermReading
pub mod DeclReading
pub mod ModuleReading
pub mod Derives
pub mod Levels
pub mod Steps
