pub mod Faults
pub mod Resolved
pub mod Modules
pub mod Faultless
pub mod Parts
pub mod ResolvedModule
