-- Whether arms are those that are wanted, each once, as tests.
use Rattle.std.specs.Prelude.{ℕ, Bool, true, false, ◌&&◌, not, List, [], ◌∷◌, Option, Some, None}
use Rattle.std.specs.List.{list_any}
use Rattle.std.specs.Str.{bytes_eq}
use Rattle.fst_types.specs.declared.label.Label.{Label}
use Rattle.fst_types.specs.declared.label.Label.TheVariants.{Send, Receive, Select, Offer, Close, Wait, Var}

-- whether a name is among others
abbrev pub has : List (List ℕ) → List ℕ → Bool
has names x = list_any (bytes_eq x) names

-- whether each name is among others
abbrev pub all_in : List (List ℕ) → List (List ℕ) → Bool
all_in [] ys = true
all_in (x ∷ xs) ys = has ys x && all_in xs ys

-- whether no name stands twice
abbrev pub apart : List (List ℕ) → Bool
apart [] = true
apart (x ∷ xs) = not (has xs x) && apart xs

-- whether the same names were found, each once
unfoldable pub each_once : List (List ℕ) → List (List ℕ) → Bool
each_once wanted found = apart found && (all_in wanted found && all_in found wanted)

-- a name before others, where there are such
abbrev pub with_name : List ℕ → Option (List (List ℕ)) → Option (List (List ℕ))
with_name l None = None
with_name l (Some ls) = Some (l ∷ ls)

-- the names of the labels of an offered choice
abbrev pub offered : List Label → Option (List (List ℕ))
offered [] = Some []
offered (Send b ∷ moves) = None
offered (Receive b ∷ moves) = None
offered (Select l ∷ moves) = None
offered (Offer l ∷ moves) = with_name l (offered moves)
offered (Close ∷ moves) = None
offered (Wait ∷ moves) = None
offered (Var k ∷ moves) = None

-- whether there is a name, and the same names were found, each once
abbrev pub wanted_once : Option (List (List ℕ)) → List (List ℕ) → Bool
wanted_once None found = false
wanted_once (Some []) found = false
wanted_once (Some (x ∷ xs)) found = each_once (x ∷ xs) found

-- whether these are labels of an offered choice, of which there is one at least, and their names were found, each once
unfoldable pub offers : List Label → List (List ℕ) → Bool
offers moves found = wanted_once (offered moves) found
