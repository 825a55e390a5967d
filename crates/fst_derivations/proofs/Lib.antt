mod Rows
mod Parts
mod Unique
mod Weaker
mod Plainly
mod ModuleLaws
mod TextParts
mod TextLaws
pub mod Laws
