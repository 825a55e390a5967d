-- The table of the variables around a term. Lists of variables have the innermost one first.
use Rattle.std.specs.Prelude.{◌≡◌, ℕ, List, [], ◌∷◌, length, map, reverse, slice_index_or, Option, Some, None, if◌then◌else◌}
use Rattle.std.specs.Str.{bytes_eq}
use Rattle.std.specs.declared.vec.Vec.{Vec}
use Rattle.std.specs.declared.alloc.Global.{Global}
use Rattle.fst_terms.specs.Naming.{place_of}
use Rattle.fst_locals.specs.declared.locals.Open.{Open}

-- the names of a table with the level of each
abbrev pub Entries : Type 0
Entries = List (Vec ℕ Global × Option ℕ)

-- the names of a table
abbrev pub names : Entries → List (List ℕ)
names entries = map (λ (e : Vec ℕ Global × Option ℕ). e.0.items) entries

-- the level of a name in a table, if it has one
abbrev pub found : Entries → List ℕ → Option ℕ
found [] x = None
found (e ∷ entries) x = if bytes_eq x e.0.items then e.1 else found entries x

-- how many variables stand around the innermost one with a name
abbrev pub level_of : List (List ℕ) → List ℕ → Option ℕ
level_of [] x = None
level_of (y ∷ ys) x = if bytes_eq x y then Some (length ys) else level_of ys x

-- the name of a variable
abbrev pub name_of : List (List ℕ) → Open → List ℕ
name_of table o = slice_index_or table o.index []

-- the names of some variables
abbrev pub names_of : List (List ℕ) → List Open → List (List ℕ)
names_of table opens = map (name_of table) opens

-- each variable's place is the first of its name, and it hides the level of the one around with its name
abbrev pub AreOpen : List (List ℕ) → List Open → Type 0
AreOpen table [] = Unit {0}
AreOpen table (o ∷ opens) =
    (place_of table (name_of table o) ≡ Some o.index) ×
    (o.hidden ≡ level_of (names_of table opens) (name_of table o)) × AreOpen table opens

-- the names of the variables that were entered one after the other
abbrev pub names_in : Entries → List Open → List (List ℕ)
names_in entries order = names_of (names entries) (reverse order)

-- the table has the level of the innermost variable with a name, and none of a name that no variable has
pub record IsTable (entries : Entries) (order : List Open) : Type 0 where
  pub opened : AreOpen (names entries) (reverse order)
  pub levels : (x : List ℕ) → found entries x ≡ level_of (names_in entries order) x
