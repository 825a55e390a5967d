pub mod TableLaws
pub mod NumberLaws
pub mod Laws
