-- Which names are declared a second time.
use Rattle.std.specs.Prelude.{◌≡◌, ℕ, Bool, List, [], ◌∷◌, ◌++◌, map, if◌then◌else◌}
use Rattle.fst_types.specs.declared.kind.Kind.{Kind}
use Rattle.fst_terms.specs.declared.binder.Binder.{Binder}
use Rattle.fst_scopes.specs.declared.fault.NameFault.{NameFault}
use Rattle.fst_scopes.specs.declared.fault.NameFault.TheVariants.{Twice}
use Rattle.fst_scopes.specs.Faults.{is_among}

-- the names that are bound
abbrev pub names : List Binder → List (List ℕ)
names bs = map (λ b. b.name) bs

-- a name that is bound, if it is among others
abbrev pub twice_if : Bool → Binder → List NameFault
twice_if known b = if known then Twice b.at b.name ∷ [] else []

-- the names that are among earlier ones, where these stand in front
abbrev pub twice_after : List (List ℕ) → List Binder → List NameFault
twice_after front [] = []
twice_after front (b ∷ bs) = twice_if (is_among front b.name) b ++ twice_after
    (front ++ b.name ∷ []) bs

-- the names that are among earlier ones
abbrev pub twice : List Binder → List NameFault
twice bs = twice_after [] bs

-- these are the names that are bound, each once
pub record AreNames (bs : List Binder) (xs : List (List ℕ)) : Type 0 where
  pub among : (x : List ℕ) → is_among xs x ≡ is_among (names bs) x
  pub own : twice bs ≡ [] → xs ≡ names bs

-- the variables of a `forall`
abbrev pub variables : List (Binder × Kind) → List Binder
variables bs = map (λ (b : Binder × Kind). b.0) bs
