pub mod Basis
pub mod Rewrites
pub mod Parted
