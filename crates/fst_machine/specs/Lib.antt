pub mod Free
pub mod Values
pub mod Machine
pub mod Code
pub mod Spots
pub mod Standing
pub mod Programs
