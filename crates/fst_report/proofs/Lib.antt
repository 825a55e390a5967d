pub mod Laws
mod PartLaws
