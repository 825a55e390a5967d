pub mod Inside
pub mod Chains
pub mod Applying
pub mod LineReads
pub mod LineAnswers
pub mod ModuleAnswers
