pub mod Lexeme
pub mod Reading
pub mod Faults
pub mod Gives
pub mod Steps
