pub mod Vars
pub mod Scope
pub mod ModelScope
pub mod View
