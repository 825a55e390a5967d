pub mod First
pub mod Readings
pub mod Faults
pub mod Printable
