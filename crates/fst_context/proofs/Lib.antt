mod Backward
mod Places
mod MarkLaws
mod Taking
pub mod Laws
