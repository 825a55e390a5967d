pub mod Texts
pub mod WrittenTexts
pub mod MoveTexts
pub mod NameTexts
