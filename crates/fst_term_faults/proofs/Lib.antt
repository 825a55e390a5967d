mod Heights
mod TermLaws
mod NotedLaws
mod AlikeLaws
pub mod Laws
