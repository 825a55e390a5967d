mod TestLaws
mod FitLaws
mod ArmTestLaws
pub mod Laws
