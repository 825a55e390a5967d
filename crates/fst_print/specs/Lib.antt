pub mod Ranks
pub mod ModuleTexts
pub mod Stack
pub mod Unfolds
