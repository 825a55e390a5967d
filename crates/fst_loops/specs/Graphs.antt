-- Directed graphs, which list for each node the nodes that it leads to, and what is found of them.
use Rattle.std.specs.Prelude.{◌≡◌, ◌↔◌, ℕ, ◌<◌, List, [], length, take, Bool, true, false, All, Contains, slice_index, slice_index_or}
use Rattle.std.specs.declared.vec.Vec.{Vec}
use Rattle.std.specs.declared.alloc.Global.{Global}

-- the numbers in a vector
abbrev pub items_of : Vec ℕ Global → List ℕ
items_of row = row.items

-- the nodes that a node leads to directly
abbrev pub edges : List (List ℕ) → ℕ → List ℕ
edges g x = slice_index_or g x []

-- a node leads to another by one edge or more
pub data Leads (g : List (List ℕ)) : ℕ → ℕ → Type 0 where
  edge : (x y : ℕ) → Contains (edges g x) y → Leads g x y
  along : (x y z : ℕ) → Contains (edges g x) y → Leads g y z → Leads g x z

-- each edge leads to a node
abbrev pub IsGraph : List (List ℕ) → Type 0
IsGraph g = All (All (λ y. y < length g)) g

-- the node is noted as one that lies on a loop
abbrev pub is_looped : List Bool → ℕ → Bool
is_looped looped x = slice_index_or looped x false

-- each node stands in the order, and one that lies on no loop stands behind all that it leads to directly
pub record IsOrder (g : List (List ℕ)) (order : List ℕ) (looped : List Bool) : Type 0 where
  pub told : length looped ≡ length g
  pub nodes : (i : ℕ) → i < length order → slice_index order i < length g
  pub all : (x : ℕ) → x < length g → Contains order x
  pub loops : (x : ℕ) → x < length g → (is_looped looped x ≡ true) ↔ Leads g x x
  pub behind : (i : ℕ) → i < length order → is_looped looped (slice_index order i) ≡ false →
      (y : ℕ) → Contains (edges g (slice_index order i)) y → Contains (take i order) y
