-- Lists in order, and the order of traces.
use Rattle.std.specs.Prelude.{◌≡◌, ◌<◌, ◌⊎◌, List, [], ◌∷◌, length, ⊤}
use Rattle.std.specs.declared.cmp.Ordering.{Ordering}
use Rattle.std.specs.declared.cmp.Ordering.TheVariants.{Less}
use Rattle.std.specs.Cmp.Lexicographic.{slice_cmp}

-- each item is before the next one
abbrev pub IsRising : {A : Type 0} → (A → A → Ordering) → List A → Type 0
IsRising R [] = ⊤
IsRising R (x ∷ []) = ⊤
IsRising R (x ∷ y ∷ rest) = (R x y ≡ Less) × IsRising R (y ∷ rest)

-- a trace is shorter than another, or as long and less at their first difference
abbrev pub IsBefore : {A : Type 0} → (A → A → Ordering) → List A → List A → Type 0
IsBefore R v w = (length v < length w) ⊎ ((length v ≡ length w) × (slice_cmp R v w ≡ Less))
