mod MadeLaws
pub mod Laws
