-- A parameter that is entered, and the last of some parameters.
use Rattle.std.proofs.Common.{◌≡◌, ◌∙◌, ◌+◌, ◌++◌, ℕ, List, [], ◌∷◌, length, refl, subst, arith}
use Rattle.std.specs.Prelude.{Option, Some, None, MatchOption, option_to_list}
use Rattle.fst_types.specs.Tree.{Tree}
use Rattle.fst_types.specs.declared.kind.Use.{Use}
use Rattle.fst_context.specs.Scope.{Scope, entered}
use Rattle.fst_derivations.specs.Parts.{HasUse}
use Rattle.fst_premises.specs.Checks.{Check, IsInSize}
use Rattle.fst_premises.specs.Scopes.{inside}
use Rattle.fst_premises.specs.Parameters.{IsEntered}
use Rattle.fst_premises.specs.declared.parameters.Parameter.{Parameter}

-- a parameter is entered, where what it holds is known by other names
pub entered_is : (c : Check) (p : Parameter) (s m z : Scope) (t : Tree) (n : Use) → HasUse c.surroundings.vars t n →
    IsInSize p.from.now → z ≡ entered p.binder.now.name (record { type = t; uses = n }) m → m ≡ inside p.uses s → t ≡ p.from.now →
    IsEntered c p s z
entered_is c p s m z t n u small e i f = record {
  uses = n;
  has = subst (λ o. HasUse c.surroundings.vars o n) f u;
  small = small;
  is = e ∙ (λ j. entered p.binder.now.name (record { type = f j; uses = n }) (i j));
}

-- the last of some parameters
pub last_popped : (old kept : List Parameter) (n m : ℕ) (r : Option Parameter) → n ≡ length old → old ≡ kept ++ option_to_list r →
    MatchOption r ((n ≡ 0) × (m ≡ 0)) (λ _. m + 1 ≡ n) →
    MatchOption r (old ≡ []) (λ p. old ≡ kept ++ p ∷ [])
last_popped [] kept n m None long is cases = refl
last_popped (p ∷ old) kept n m None long is cases = absurd (omega (arith, long, cases.0))
last_popped old kept n m (Some p) long is cases = is
