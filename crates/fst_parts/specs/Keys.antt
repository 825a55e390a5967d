-- Numbers for trees: the places of keys, each of which has the numbers of a tree's parts in place of the parts.
use Rattle.std.specs.Prelude.{◌≡◌, ℕ, ◌<◌, List, [], ◌∷◌, ◌++◌, length, nat_lt, if◌then◌else◌, slice_index_or}
use Rattle.std.specs.List.{position_or_len}
use Rattle.std.specs.Str.{bytes_eq}
use Rattle.fst_parts.specs.declared.forms.Form.{Form}
use Rattle.fst_parts.specs.declared.forms.Form.TheVariants as forms
use Rattle.fst_parts.specs.declared.forms.Node.{Node}
use Rattle.fst_parts.specs.declared.forms.Node.TheVariants as node
use Rattle.fst_parts.specs.Shapes.{Shape, end, leaf, wrap, fork, link}

-- the place of a key, or the number of keys
abbrev pub place : List (List ℕ) → List ℕ → ℕ
place keys key = position_or_len (bytes_eq key) keys

-- the keys, and behind them a key that isn't there
abbrev pub with_key : List (List ℕ) → List ℕ → List (List ℕ)
with_key keys key = if nat_lt (place keys key) (length keys) then keys else keys ++ key ∷ []

-- a number in the key at a place
abbrev pub number_in : List (List ℕ) → ℕ → ℕ → ℕ
number_in keys at k = slice_index_or (slice_index_or keys at []) k 0

-- the numbers of a tree's first and second part
abbrev pub first : List (List ℕ) → ℕ → ℕ
first keys at = number_in keys at 1

-- the number of a tree's second part
abbrev pub second : List (List ℕ) → ℕ → ℕ
second keys at = number_in keys at 2

-- what stands for a form in a key: any numbers would do that differ
abbrev pub form_number : Form → ℕ
form_number forms.Send = 0
form_number forms.Receive = 1
form_number forms.Close = 13
form_number forms.Wait = 14
form_number forms.Select = 2
form_number forms.Offer = 3
form_number forms.Seq = 4
form_number forms.Rec = 5
form_number forms.Back = 6
form_number forms.Var = 7
form_number forms.Plain = 8
form_number forms.Many = 9
form_number forms.Once = 10
form_number forms.Pair = 11
form_number forms.Named = 12

-- what a key begins with, so that no two nodes of other kinds have one key
abbrev pub node_mark : Node → ℕ
node_mark node.Leaf = 1
node_mark node.Wrap = 2
node_mark node.Fork = 3
node_mark node.Link = 4

-- the key of a node by what it holds, or by the numbers of its parts
abbrev pub leaf_key : Form → ℕ → List ℕ
leaf_key f holds = node_mark node.Leaf ∷ form_number f ∷ holds ∷ []

-- the key of a node with one part
abbrev pub wrap_key : Form → ℕ → List ℕ
wrap_key f part = node_mark node.Wrap ∷ part ∷ form_number f ∷ []

-- the key of a node with two parts
abbrev pub fork_key : Form → ℕ → ℕ → List ℕ
fork_key f left right = node_mark node.Fork ∷ left ∷ right ∷ form_number f ∷ []

-- the key of a branch and those behind it
abbrev pub link_key : List ℕ → ℕ → ℕ → List ℕ
link_key l left right = node_mark node.Link ∷ left ∷ right ∷ l

-- the key is there, at this place
abbrev pub IsAt : List (List ℕ) → ℕ → List ℕ → Type 0
IsAt keys at key = (place keys key ≡ at) × (at < length keys)

-- the number is that of the tree
abbrev pub Stands : List (List ℕ) → ℕ → Shape → Type 0
Stands keys at end = IsAt keys at []
Stands keys at (leaf f holds) = IsAt keys at (leaf_key f holds)
Stands keys at (wrap f x) = IsAt keys at (wrap_key f (first keys at)) ×
    Stands keys (first keys at) x
Stands keys at (fork f x y) =
    IsAt keys at (fork_key f (first keys at) (second keys at)) × Stands keys (first keys at) x ×
    Stands keys (second keys at) y
Stands keys at (link l x y) =
    IsAt keys at (link_key l (first keys at) (second keys at)) × Stands keys (first keys at) x ×
    Stands keys (second keys at) y

-- all trees keep their numbers
abbrev pub KeepsNumbers : List (List ℕ) → List (List ℕ) → Type 0
KeepsNumbers keys more = (x : Shape) (at : ℕ) → Stands keys at x → Stands more at x
