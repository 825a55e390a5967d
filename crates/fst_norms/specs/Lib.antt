pub mod Norms
pub mod Bounds
pub mod Lowering
pub mod Pruned
pub mod Pending
