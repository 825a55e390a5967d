-- What maps and sets have at paths.
use Rattle.std.specs.Prelude.{ℕ, zero, Bool, List, [], ◌∷◌, if◌then◌else◌}
use Rattle.std.specs.Str.{bytes_eq}
use Rattle.std.specs.List.{AllByRecursion, list_any}
use Rattle.std.specs.List.Sorted.{IsStrictlySortedBy}
use Rattle.std.specs.Map.{keys_of}
use Rattle.std.specs.Ordering.{is_eq, nat_cmp}
use Rattle.std.specs.Cmp.Lexicographic.{slice_cmp}
use Rattle.std.specs.declared.alloc.Global.{Global}
use Rattle.std.specs.declared.vec.Vec.{Vec}

-- the path of a task: main's is 0, and the k-th task that a task forks has its path with k behind it
abbrev pub Path : Type 0
Path = List ℕ

-- the path of main's task
abbrev pub main_path : Path
main_path = zero ∷ []

-- the paths are the same
abbrev pub same_path : Path → Path → Bool
same_path p q = bytes_eq p q

-- a key of a map or of a set
abbrev pub Key : Type 0
Key = Vec ℕ Global

-- the keys of a set
abbrev pub Keys : Type 0
Keys = List Key

-- two keys are the same
abbrev pub same_key : Key → Key → Bool
same_key a b = is_eq (slice_cmp nat_cmp a.items b.items)

-- the test for a path among keys
abbrev pub at_path : Path → Key → Bool
at_path p k = is_eq (slice_cmp nat_cmp p k.items)

-- the path is among these keys
abbrev pub has_path : Keys → Path → Bool
has_path ks p = list_any (at_path p) ks

-- a value at one path
abbrev pub put_at : {X : Type 0} → Path → X → (Path → X) → Path → X
put_at p x f q = if same_path p q then x else f q

-- the keys of a map are in the order of paths
abbrev pub AreInOrder : {X : Type 0} → List (Key × X) → Type 0
AreInOrder es = IsStrictlySortedBy (λ a b. slice_cmp nat_cmp a.items b.items) (keys_of es)
