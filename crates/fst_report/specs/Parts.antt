-- A type as parts of it, one after another.
use Rattle.std.specs.Prelude.{◌≡◌, ℕ, List, [], ◌∷◌, Bool, true, false, Some, None, option_map, reverse, if◌then◌else◌}
use Rattle.std.specs.List.{sum_by}
use Rattle.fst_types.specs.Tree.{Tree, skip, seq}
use Rattle.fst_types.specs.Size.{nodes}
use Rattle.fst_types.specs.declared.label.Label.{Label}
use Rattle.fst_lts.specs.Step.{step, is_end}

-- a type and others behind it
abbrev pub followed_by : Tree → List Tree → Tree
followed_by t [] = t
followed_by t (s ∷ ss) = followed_by (seq t s) ss

-- the type that has these parts, the first of them first
abbrev pub whole : List Tree → Tree
whole [] = skip
whole (t ∷ ts) = followed_by t ts

-- the type that is left, whose parts are kept with the first of them last
abbrev pub left_in : List Tree → Tree
left_in parts = whole (reverse parts)

-- these parts move as those do
abbrev pub MoveAlike : List Tree → List Tree → Type 0
MoveAlike ss ts = (a : Label) → step (whole ss) a ≡ step (whole ts) a

-- what is left behind a label of a type that went on as t and of others behind that one: nothing, where a protocol ends by it
abbrev pub left_behind : Label → List Tree → Tree → Tree
left_behind a rest t = if is_end a then skip else followed_by t rest

-- these parts move as the type t does, and what is left has the rest of them behind, where no protocol ends by the label
abbrev pub MovesFirst : Tree → List Tree → List Tree → Type 0
MovesFirst t rest parts = (a : Label) → step (whole parts) a ≡ option_map (left_behind a rest)
    (step t a)

-- where t, in front of the parts, moves by the label, new parts are what is left behind it; else the parts stay
abbrev pub GoOn : Tree → Label → List Tree → List Tree → Bool → Type 0
GoOn t a rest new true = option_map (left_behind a rest) (step t a) ≡ Some (whole new)
GoOn t a rest new false = (step t a ≡ None) × (new ≡ rest)

-- how many nodes these types have together
abbrev pub nodes_in : List Tree → ℕ
nodes_in ts = sum_by nodes ts
