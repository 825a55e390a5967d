-- Types without faults stand for something, and are no higher than types may be.
use Rattle.std.proofs.Common.{◌≡◌, ◌∙◌, ℕ, ◌<◌, ◌^◌, List, [], Option, Some, None, refl, sym, ap, arith}
use Rattle.std.specs.Prelude.{IsSome, unwrap_or}
use Rattle.fst_types.specs.ModelWrittenHeight.{height}
use Rattle.fst_types.specs.Tree.{Tree}
use Rattle.fst_types.specs.WrittenTree.{WrittenTree}
use Rattle.fst_terms.specs.Naming.{Scope, place, type_of}
use Rattle.fst_scopes.specs.Faults.{unbound, too_large, type_faults}
use Rattle.fst_scopes.proofs.Laws.{none_named, type_there, no_higher, no_larger}

module _ (s : Scope) (all : (x : List ℕ) → IsSome (unwrap_or (s.declared x) s.otherwise)) (w : WrittenTree) where
  -- where each name stands for something, so does a type
  pub type_known : IsSome (type_of s w)
  type_known = type_there s all w

  -- and one without faults is no higher than types may be
  pub type_low : type_faults s w ≡ [] → height w < 2 ^ 32
  type_low e = low (type_of s w) refl type_known
    where
      low : (o : Option Tree) → type_of s w ≡ o → IsSome o → height w < 2 ^ 32
      low (Some t) is h =
          let small = no_larger (place w) t (ap (too_large (place w)) (sym is)
          ∙ (none_named (unbound s w) (too_large (place w) (type_of s w)) e).1) in
          let high = no_higher s w t is in
          omega (arith, small, high)
      low None is h = absurd (cc h)
