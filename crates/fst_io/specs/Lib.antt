pub mod Faults
pub mod GivingUp
pub mod Memory
pub mod Adapters
