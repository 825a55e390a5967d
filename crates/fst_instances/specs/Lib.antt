pub mod Instance
pub mod EqualParts
