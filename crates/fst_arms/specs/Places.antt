-- Tables of names with their places.
use Rattle.std.specs.Prelude.{◌≡◌, ℕ, Bool, List, Option}
use Rattle.std.specs.Map.{lookup}
use Rattle.std.specs.Str.{bytes_eq}
use Rattle.std.specs.declared.alloc.Global.{Global}
use Rattle.std.specs.declared.vec.Vec.{Vec}
use Rattle.fst_terms.specs.Naming.{place_of}

-- the names of a table with the place of each
abbrev pub Entries : Type 0
Entries = List (Vec ℕ Global × ℕ)

-- the test for a name
abbrev pub is : List ℕ → Vec ℕ Global → Bool
is x k = bytes_eq x k.items

-- the place of a name in a table, if it has one
abbrev pub found : Entries → List ℕ → Option ℕ
found entries x = lookup (is x) entries

-- the table has each name's first place, and no other name
abbrev pub ArePlaces : List (List ℕ) → Entries → Type 0
ArePlaces names entries = (x : List ℕ) → found entries x ≡ place_of names x
