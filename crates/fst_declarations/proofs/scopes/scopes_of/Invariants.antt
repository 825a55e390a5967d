use Rattle.std.proofs.Common.{List, Option, take}
use Rattle.fst_types.specs.Tree.{Tree}
use Rattle.fst_scopes.specs.Counted.{AreMeasures}
use Rattle.fst_declarations.specs.SignatureScopes.{AreScopes}
use Rattle.fst_declarations.proofs.scopes.scopes_of.Given as goal

abbrev pub invariant-loop-entry : goal.invariant-loop-entry
invariant-loop-entry l = (trees : List (Option Tree)) → AreMeasures trees l.measures →
    AreScopes l.types trees (take l.entry-index l.signatures.entries.items) l.scopes.items
