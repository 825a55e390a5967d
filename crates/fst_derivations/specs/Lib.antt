pub mod Deriv
pub mod Parts
pub mod Rules
pub mod Laws
pub mod Modules
pub mod Texts
