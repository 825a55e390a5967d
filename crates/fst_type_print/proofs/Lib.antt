pub mod Appended
pub mod BranchLaws
