-- The choices and recursive types within types, and the numbers of non-terminals.
use Rattle.std.specs.Prelude.{ℕ, ◌+◌, List, [], ◌∷◌, ◌++◌, length, Bool, if◌then◌else◌}
use Rattle.std.specs.List.{list_any}
use Rattle.fst_types.specs.Tree.{Tree, skip, send, receive, close, wait, select, offer, seq, rec, back, var, plain, arrow, pair, named, Branches, none, branch}
use Rattle.fst_types.specs.Size.{nodes}
use Rattle.fst_types.specs.declared.label.Label.{Label}
use Rattle.fst_lts.specs.Step.{terminated, is_end}
use Rattle.fst_parts.specs.Place.{Place, top_of, place_past, own_place, body_place}
use Rattle.fst_grammar.specs.Word.{Numbers}
use Rattle.fst_parts.specs.Labels.{names, label_position}
use Rattle.fst_parts.specs.Once.{Part, position, with_parts}

-- all choices and those `rec`s that aren't terminated, in preorder
abbrev mutual
  pub parts : Place → Tree → List Part
  parts p skip = []
  parts p (send b) = []
  parts p (receive b) = []
  parts p close = []
  parts p wait = []
  parts p (select cs) = record { place = own_place p (select cs); type = select cs } ∷ parts_all
      (place_past (own_place p (select cs)) 1) cs
  parts p (offer cs) = record { place = own_place p (offer cs); type = offer cs } ∷ parts_all
      (place_past (own_place p (offer cs)) 1) cs
  parts p (seq s r) = parts (place_past p 1) s ++ parts (place_past p (1 + nodes s)) r
  parts p (rec s) =
      if terminated s then [] else record { place = own_place p (rec s); type = rec s } ∷ parts
      (body_place (own_place p (rec s))) s
  parts p (back k) = []
  parts p (var k) = []
  parts p (plain b) = []
  parts p (arrow u s r) = []
  parts p (pair s r) = []
  parts p (named k) = []

  -- those in each branch
  pub parts_all : Place → Branches → List Part
  parts_all p none = []
  parts_all p (branch l s cs) = parts (place_past p 1) s ++ parts_all
      (place_past p (1 + nodes s)) cs

-- the parts of two types, the left before the right, each once, by its first place
abbrev pub parts_of : Tree → Tree → List Part
parts_of s r = with_parts [] (parts (top_of s) s ++ parts (top_of r) r)

-- first the messages, Close, Wait and the variables in label order, then the choices and `rec`s, and last the dead one
abbrev pub numbers_by : List Label → List Part → Numbers
numbers_by letters found =
    record {
      name = label_position (names letters);
      node =
          λ whole at. length (names letters) + position found whole at;
      dead = length (names letters) + length found;
    }

-- Close or Wait is among the letters
abbrev pub has_end : List Label → Bool
has_end letters = list_any is_end letters

-- how many dead non-terminals there are
abbrev pub dead_count : List Label → ℕ
dead_count letters = if has_end letters then 1 else 0
