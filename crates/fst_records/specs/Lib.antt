pub mod Records
pub mod Entries
pub mod Growing
pub mod Parts
pub mod Gathering
pub mod Laws
pub mod NameOrder
