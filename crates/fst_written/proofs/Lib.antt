pub mod Laws
mod FirstLaws
mod ReadingLaws
mod OtherLaws
mod RangeLaws
mod ModuleLaws
mod NumberLaws
mod VariableLaws
mod ToldLaws
mod LeastLaws
mod PrintableLaws
mod OneLaws
mod FieldLaws
