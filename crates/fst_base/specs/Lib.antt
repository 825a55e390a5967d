pub mod Limits
pub mod Agreement
pub mod Order
pub mod Choice
pub mod Codes
pub mod Gains
