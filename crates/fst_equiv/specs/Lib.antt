pub mod Problem
pub mod Answers
pub mod Findings
pub mod Verdicts
pub mod Faults
pub mod Comparison
pub mod Outcomes
