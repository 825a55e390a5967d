-- What is kept of each signature for its equation.
use Rattle.std.specs.Prelude.{◌≡◌, List, [], ◌∷◌, Option, option_map, min, ⊤}
use Rattle.fst_types.specs.Tree.{Tree}
use Rattle.fst_terms.specs.Naming.{type_of}
use Rattle.fst_scopes.specs.Measures.{arrows, ceiling}
use Rattle.fst_scopes.specs.Scopes.{declared_in, standing_in}
use Rattle.fst_scopes.specs.Twice.{AreNames, variables}
use Rattle.fst_scopes.specs.TypeNames.{scope_with}
use Rattle.fst_scopes.specs.declared.types.TypeNames.{TypeNames}
use Rattle.fst_declarations.specs.declared.entries.SignatureEntry.{SignatureEntry}
use Rattle.fst_declarations.specs.declared.scopes.SignatureScope.{SignatureScope}

-- what is kept of a signature, where names of types stand for these trees
pub record IsScopeOf (types : TypeNames) (trees : List (Option Tree)) (e : SignatureEntry)
    (s : SignatureScope) : Type 0 where
  pub vars : AreNames (variables e.binders.now) s.vars
  pub arrows_are : s.arrows ≡ option_map
      (λ t. min (arrows t) ceiling) (type_of
      (scope_with s.vars (declared_in types) (standing_in types trees)) e.its_type.now)

-- what is kept of each
abbrev pub AreScopes : TypeNames → List (Option Tree) → List SignatureEntry → List SignatureScope →
    Type 0
AreScopes types trees [] [] = ⊤
AreScopes types trees [] (s ∷ ss) = ⊥
AreScopes types trees (e ∷ es) [] = ⊥
AreScopes types trees (e ∷ es) (s ∷ ss) = IsScopeOf types trees e s × AreScopes types trees es ss
