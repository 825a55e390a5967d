pub mod Receipts
pub mod Getters
pub mod Merging
pub mod EventTexts
pub mod Counts
pub mod RunNames
pub mod LeastEvents
