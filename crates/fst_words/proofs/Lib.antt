pub mod RuleLaws
pub mod RangeLaws
pub mod LabelLaws
pub mod CutLaws
pub mod Laws
