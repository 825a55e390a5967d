pub mod TermDrops
pub mod CoreDrops
pub mod SourceAround
pub mod Around
pub mod Laws
