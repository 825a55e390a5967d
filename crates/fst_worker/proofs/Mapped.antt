-- Lists of what things are mapped to.
use Rattle.std.proofs.Common.{◌≡◌, ◌∙◌, ◌⊎◌, inl, inr, ◌+◌, ℕ, List, [], ◌∷◌, map, refl, ap, arith}
use Rattle.std.specs.Prelude.{sum_by, Contains}
use Rattle.std.proofs.lemmas.List.{length-map}
use Rattle.std.proofs.lemmas.List.Elements.{Contains-append_right}
use Rattle.std.proofs.lemmas.List.Folds.{fold-map}
use Rattle.std.proofs.Math.ListN.{get_or-map}
use Rattle.fst_base.proofs.Lists.{from_contains, contains_none}

module _ {X Y : Type 0} (f : X → Y) where
  -- a sum over what things are mapped to
  pub sum_mapped : (w : Y → ℕ) (xs : List X) → sum_by w (map f xs) ≡ sum_by (λ (x : X). w (f x)) xs
  sum_mapped w xs = fold-map (λ a y. a + w y) f 0 xs

  -- what a thing of a list is mapped to is there
  pub mapped_in : (xs : List X) (x : X) → Contains xs x → Contains (map f xs) (f x)
  mapped_in xs x (i, l, is) = let n = length-map xs f in (i, omega (arith, n, l), get_or-map f xs i x ∙ ap f is)

  from_or : (y : Y) (x : X) (xs : List X) → (f x ≡ y) ⊎ Contains (map f xs) y →
      (Contains (map f xs) y → (z : X) × Contains xs z × (f z ≡ y)) → (z : X) × Contains (x ∷ xs) z × (f z ≡ y)
  from_or y x xs (inl e) more = (x, (0, omega arith, refl), e)
  from_or y x xs (inr i) more = let r = more i in (r.0, Contains-append_right (x ∷ []) xs r.0 r.1, r.2)

  -- what is there is what a thing of the list is mapped to
  pub mapped_from : (xs : List X) (y : Y) → Contains (map f xs) y → (x : X) × Contains xs x × (f x ≡ y)
  mapped_from [] y i = absurd (contains_none y i)
  mapped_from (x ∷ xs) y i = from_or y x xs (from_contains (map f xs) y (f x) i) (mapped_from xs y)
