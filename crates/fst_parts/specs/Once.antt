-- Choices and recursive types at their places, and a list that has each of them once.
use Rattle.std.specs.Prelude.{ℕ, suc, nat_eq, nat_lt, List, [], ◌∷◌, ◌++◌, length, Bool, ◌&&◌, if◌then◌else◌}
use Rattle.fst_types.specs.Tree.{Tree}
use Rattle.fst_parts.specs.Place.{Place}
use Rattle.fst_parts.specs.Same.{same_tree}

-- a choice or a `rec` at its place
pub record Part : Type 0 where
  pub place : Place
  pub type : Tree

-- two places are the same part of two occurrences of one closed type
abbrev pub stands_at : Part → Tree → ℕ → Bool
stands_at e whole at = nat_eq e.place.at at && same_tree e.place.whole whole

-- the first in the list at this place of this closed type, or the list's length
abbrev pub position : List Part → Tree → ℕ → ℕ
position [] whole at = 0
position (e ∷ es) whole at = if stands_at e whole at then 0 else suc (position es whole at)

-- the list, and behind it a part that is the same as none in it
abbrev pub with_part : List Part → Part → List Part
with_part found e = if nat_lt (position found e.place.whole e.place.at)
    (length found) then found else found ++ e ∷ []

-- the list with each of these parts in turn
abbrev pub with_parts : List Part → List Part → List Part
with_parts found [] = found
with_parts found (e ∷ es) = with_parts (with_part found e) es
