pub mod NormLaws
pub mod DifferenceLaws
pub mod NormedLaws
pub mod LoweringLaws
pub mod PruneLaws
pub mod Laws
