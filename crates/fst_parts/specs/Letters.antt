-- A list of labels in their order.
use Rattle.std.specs.Prelude.{◌≡◌, ℕ, ◌<◌, ◌≤◌, List, [], ◌∷◌, ◌++◌, length, take, drop, Result, MatchResult}
use Rattle.std.specs.declared.cmp.Ordering.{Ordering}
use Rattle.std.specs.declared.cmp.Ordering.TheVariants.{Less, Equal, Greater}
use Rattle.fst_types.specs.Order.{label_cmp}
use Rattle.fst_types.specs.declared.label.Label.{Label}
use Rattle.fst_parts.specs.Labels.{label_position}

-- the list with the label at its place, unless it is there
abbrev pub with_label_by : Ordering → Label → Label → List Label → List Label → List Label
with_label_by Less a b bs rest = a ∷ b ∷ bs
with_label_by Equal a b bs rest = b ∷ bs
with_label_by Greater a b bs rest = b ∷ rest

-- the list with a label at its place, unless it is there
abbrev pub with_label : List Label → Label → List Label
with_label [] a = a ∷ []
with_label (b ∷ bs) a = with_label_by (label_cmp a b) a b bs (with_label bs a)

-- the same with one label after the other
abbrev pub with_labels : List Label → List Label → List Label
with_labels letters [] = letters
with_labels letters (a ∷ labels) = with_labels (with_label letters a) labels

-- a label stands at this place of a rising list
pub record IsLabelAt (letters : List Label) (a : Label) (i : ℕ) : Type 0 where
  pub within : i < length letters
  pub position : label_position letters a ≡ i
  pub kept : with_label letters a ≡ letters

-- a label isn't in a rising list, and goes to this place
pub record GoesTo (letters : List Label) (a : Label) (i : ℕ) : Type 0 where
  pub within : i ≤ length letters
  pub position : label_position letters a ≡ length letters
  pub more : with_label letters a ≡ take i letters ++ a ∷ drop i letters

-- the place of a label in a rising list, or else the place where it goes
abbrev pub IsPlaceFor : List Label → Label → Result ℕ ℕ → Type 0
IsPlaceFor letters a found = MatchResult found (IsLabelAt letters a) (GoesTo letters a)
