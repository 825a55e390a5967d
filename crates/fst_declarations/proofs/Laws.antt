-- What other crates cite of what a module declares.
-- the types that a table has are those that are declared
pub use Rattle.fst_declarations.proofs.DeclarationLaws.{same_declared}
