pub mod Heads
pub mod Rule
pub mod End
pub mod Answers
pub mod Close
