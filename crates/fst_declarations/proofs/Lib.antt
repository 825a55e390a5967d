mod FirstTables
mod DeclaredTables
mod DeclarationLaws
pub mod Laws
