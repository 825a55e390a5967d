pub mod RewriteParts
pub mod PartedLaws
pub mod Joining
pub mod LetterLaws
pub mod MarkLaws
pub mod ChainLaws
pub mod WayLaws
pub mod Laws
