-- What the code knows of the types in an equation.
use Rattle.std.proofs.Common.{◌≡◌, ◌∙◌, ℕ, ◌+◌, ◌<◌, ◌^◌, List, [], Bor, Option, length, sym, ap, subst, arith}
use Rattle.std.specs.Prelude.{IsSome}
use Rattle.fst_types.specs.ModelWrittenHeight.{height}
use Rattle.fst_types.specs.Tree.{Tree}
use Rattle.fst_types.specs.WrittenTree.{WrittenTree}
use Rattle.fst_terms.specs.Naming.{Scope, type_of}
use Rattle.fst_scopes.specs.declared.names.Names as names
use Rattle.fst_scopes.specs.Faults.{type_faults}
use Rattle.fst_scopes.specs.Scopes.{scope_around}
use Rattle.fst_term_faults.specs.CodeSurroundings.{scope_of}
use Rattle.fst_term_names.specs.declared.meanings.Meanings.{Meanings}
use Rattle.fst_scopes.proofs.Laws.{trees_long}
use Rattle.fst_term_names.proofs.TypeSound.{type_known, type_low}

-- what is in scope with these variables, where the code looks
abbrev pub looked_in : Meanings → Bor (List (List ℕ)) → Scope
looked_in m vars = scope_around (names.Outermost vars m.around.now.types) m.trees.now

-- it is what is in scope
pub scope_is : (m : Meanings) (vars : Bor (List (List ℕ))) → looked_in m vars ≡ scope_of m.around.now vars.now
scope_is m vars = ap (λ (ts : List (Option Tree)). scope_around (names.Outermost vars m.around.now.types) ts) m.trees_are

-- as many names stand for something or for nothing as there are
pub trees_counted : (m : Meanings) → length m.trees.now ≡ length m.around.now.types.now.names
trees_counted m =
    let a = m.around.now in
    ap (λ (ts : List (Option Tree)). length ts) m.trees_are
    ∙ trees_long a.types.now a.aliases.now.looped.items a.aliases.now.order.items

-- a type that stands for something and is no higher than types may be
pub record IsSound (s : Scope) (w : WrittenTree) : Type 0 where
  pub known : IsSome (type_of s w)
  pub depth : 0 + height w < 2 ^ 32

-- as each without faults does
pub type_sound : (m : Meanings) (vars : Bor (List (List ℕ))) (w : WrittenTree) →
    type_faults (scope_of m.around.now vars.now) w ≡ [] → IsSound (looked_in m vars) w
type_sound m vars w none =
    let s = scope_of m.around.now vars.now in
    let low = type_low s m.there w none in
    record {
      known = subst (λ t. IsSome (type_of t w)) (sym (scope_is m vars)) (type_known s m.there w);
      depth =
          omega (arith, low);
    }
