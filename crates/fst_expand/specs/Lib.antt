pub mod Bridge
pub mod Cuts
pub mod Expansion
pub mod Good
pub mod Measures
pub mod Repeats
pub mod Table
pub mod Trail
