pub mod TermFaults
pub mod CodeSurroundings
