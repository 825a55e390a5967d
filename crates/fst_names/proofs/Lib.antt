mod QuestionLaws
mod FaultlessLaws
mod GlobalLaws
mod RangeLaws
mod CountLaws
mod OnceLaws
mod FamilyLaws
mod SoundTypes
mod VariableLaws
mod OverLaws
mod NumberLaws
mod WholeLaws
pub mod OneModule
mod ModuleLaws
mod TreeLaws
mod FaultlessTrees
mod EquationLaws
mod PartLaws
