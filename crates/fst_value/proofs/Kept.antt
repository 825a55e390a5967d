-- What the nodes of values are.
use Rattle.std.proofs.Common.{◌≡◌, ◌∙◌, ℕ, suc, ◌+◌, ◌-◌, ◌<◌, ◌≤◌, List, [], ◌∷◌, ◌++◌, length, take, drop, get_or, refl, sym, ap, arith}
use Rattle.std.specs.List.{flat_map}
use Rattle.std.proofs.lemmas.Grind.{flat_map-append}
use Rattle.std.proofs.lemmas.List.{append-nil, length-append, length-take, length-drop, take-append-drop, take_at, drop_at, take_more, drop_more, get_or-drop}
use Rattle.fst_value.specs.ValueTree.{ValueTree, int, bool, char, unit, pair, make, function, end, ValueTrees, none, value}
use Rattle.fst_value.specs.declared.cells.Cell.{Cell}
use Rattle.fst_value.specs.declared.cells.Cell.TheVariants as cell
use Rattle.fst_value.specs.declared.nodes.Node.{Node}
use Rattle.fst_value.specs.OneCell.{ends_at}
use Rattle.fst_value.specs.Cells.{count, cells_of, cells_of_all, spelled, first_or_unit, ends_in, ends_in_all}
use Rattle.fst_value.specs.CellFacts.{spelled-cells_of}
use Rattle.fst_value.specs.Parts.{root_of, parts_of, listed}
use Rattle.fst_value.specs.Nodes.{headed, nodes_of, nodes_of_all, cells_in, values_in, AreNodes, tree_of, IsKept}

cells_in-append : (ms ns : List Node) → cells_in (ms ++ ns) ≡ cells_in ms ++ cells_in ns
cells_in-append [] ns = refl
cells_in-append (m ∷ ms) ns = ap (λ cs. m.cell ∷ cs) (cells_in-append ms ns)

mutual
  -- the cells of a value's nodes are its cells
  cells_in-nodes_of : (v : ValueTree) → cells_in (nodes_of v) ≡ cells_of v
  cells_in-nodes_of (int n) = refl
  cells_in-nodes_of (bool b) = refl
  cells_in-nodes_of (char c) = refl
  cells_in-nodes_of unit = refl
  cells_in-nodes_of (pair v w) =
      ap (λ cs. cell.Pair ∷ cs) (cells_in-append (nodes_of v) (nodes_of w)
      ∙ (λ i. cells_in-nodes_of v i ++ cells_in-nodes_of w i))
  cells_in-nodes_of (make n o vs) = ap (λ cs. cell.Make n o (count vs) ∷ cs) (cells_in-nodes_of_all vs)
  cells_in-nodes_of (function l vs) = ap (λ cs. cell.Function l (count vs) ∷ cs) (cells_in-nodes_of_all vs)
  cells_in-nodes_of (end x) = refl

  cells_in-nodes_of_all : (vs : ValueTrees) → cells_in (nodes_of_all vs) ≡ cells_of_all vs
  cells_in-nodes_of_all none = refl
  cells_in-nodes_of_all (value v vs) =
      cells_in-append (nodes_of v) (nodes_of_all vs) ∙ (λ i. cells_in-nodes_of v i ++ cells_in-nodes_of_all vs i)

-- the nodes of a value in front of others spell this value first
pub values_in-nodes_of : (v : ValueTree) (ns : List Node) → values_in (nodes_of v ++ ns) ≡ v ∷ values_in ns
values_in-nodes_of v ns =
    ap spelled (cells_in-append (nodes_of v) ns ∙ ap (λ cs. cs ++ cells_in ns) (cells_in-nodes_of v))
    ∙ spelled-cells_of v (cells_in ns)

-- the nodes of values spell these values
values_in-nodes : (vs : List ValueTree) → values_in (flat_map nodes_of vs) ≡ vs
values_in-nodes [] = refl
values_in-nodes (v ∷ vs) = values_in-nodes_of v (flat_map nodes_of vs) ∙ ap (λ ws. v ∷ ws) (values_in-nodes vs)

pub values_are : (ns : List Node) (vs : List ValueTree) → ns ≡ flat_map nodes_of vs → values_in ns ≡ vs
values_are ns vs h = ap values_in h ∙ values_in-nodes vs

pub are_nodes : (ns : List Node) (vs : List ValueTree) → ns ≡ flat_map nodes_of vs → AreNodes ns
are_nodes ns vs h = h ∙ ap (flat_map nodes_of) (sym (values_are ns vs h))

pub nodes-listed : (vs : ValueTrees) → flat_map nodes_of (listed vs) ≡ nodes_of_all vs
nodes-listed none = refl
nodes-listed (value v vs) = ap (λ ns. nodes_of v ++ ns) (nodes-listed vs)

-- a value's nodes are its root and the nodes of its parts
pub root_nodes : (v : ValueTree) → nodes_of v ≡ headed (root_of v) (flat_map nodes_of (listed (parts_of v)))
root_nodes (int n) = refl
root_nodes (bool b) = refl
root_nodes (char c) = refl
root_nodes unit = refl
root_nodes (pair v w) = ap (λ ns. headed cell.Pair (nodes_of v ++ ns)) (sym (append-nil (nodes_of w)))
root_nodes (make n o vs) = ap (headed (cell.Make n o (count vs))) (sym (nodes-listed vs))
root_nodes (function l vs) = ap (headed (cell.Function l (count vs))) (sym (nodes-listed vs))
root_nodes (end x) = refl

pub some_nodes : (v : ValueTree) → 0 < length (nodes_of v)
some_nodes v = omega (arith, ap length (root_nodes v))

-- the root and the nodes of the parts of a value are kept, and it is what is kept
pub kept_tree : (c : Cell) (ns : List Node) (v : ValueTree) → headed c ns ≡ nodes_of v → tree_of c ns ≡ v
kept_tree c ns v h = ap first_or_unit (ap values_in (h ∙ sym (append-nil (nodes_of v))) ∙ values_in-nodes_of v [])

pub kept_is : (c : Cell) (ns : List Node) (v : ValueTree) → headed c ns ≡ nodes_of v → IsKept c ns
kept_is c ns v h = h ∙ ap nodes_of (sym (kept_tree c ns v h))

-- what is kept of a value
pub kept_nodes : (c : Cell) (ns : List Node) (v : ValueTree) → IsKept c ns → tree_of c ns ≡ v → headed c ns ≡ nodes_of v
kept_nodes c ns v k e = k ∙ ap nodes_of e

pub kept_parts : (c : Cell) (ns : List Node) (v : ValueTree) → IsKept c ns → tree_of c ns ≡ v →
    (c ≡ root_of v) × (ns ≡ flat_map nodes_of (listed (parts_of v)))
kept_parts c ns v k e =
    let h = kept_nodes c ns v k e ∙ root_nodes v in
    (ap (λ (ms : List Node). (get_or ms 0 (record { cell = c; size = 0 })).cell) h, ap (drop 1) h)

-- the first value that nodes spell, and the nodes behind it
pub record IsFirst (ns : List Node) (v : ValueTree) (rest : List ValueTree) : Type 0 where
  pub values : values_in ns ≡ v ∷ rest
  pub nodes : ns ≡ nodes_of v ++ flat_map nodes_of rest

first_of : (ns : List Node) (vs : List ValueTree) → 0 < length ns → values_in ns ≡ vs → ns ≡ flat_map nodes_of vs →
    (v : ValueTree) × (rest : List ValueTree) × IsFirst ns v rest
first_of ns [] lt e h = absurd (omega (arith, lt, ap length h))
first_of ns (v ∷ vs) lt e h = (v, vs, record { values = e; nodes = h })

pub first_is : (ns : List Node) → 0 < length ns → AreNodes ns →
    (v : ValueTree) × (rest : List ValueTree) × IsFirst ns v rest
first_is ns lt a = first_of ns (values_in ns) lt refl a

-- the first node of a value has its root and how many nodes the value has
pub first_node : (ns rest : List Node) (n : Node) (v : ValueTree) → n ≡ get_or ns 0 n → ns ≡ nodes_of v ++ rest →
    (n.cell ≡ root_of v) × (n.size ≡ length (nodes_of v))
first_node ns rest n v r h =
    let is = r ∙ ap (λ (ms : List Node). get_or ms 0 n) (h ∙ ap (λ ms. ms ++ rest) (root_nodes v)) in
    (ap (λ (m : Node). m.cell) is, ap (λ (m : Node). m.size) is ∙ sym (ap length (root_nodes v)))

-- nodes that are cut behind the first values
cut : (ns : List Node) (vs : List ValueTree) (i at : ℕ) → ns ≡ flat_map nodes_of vs →
    at ≡ length (flat_map nodes_of (take i vs)) →
    (take at ns ≡ flat_map nodes_of (take i vs)) × (drop at ns ≡ flat_map nodes_of (drop i vs))
cut ns vs i at h l =
    let front = flat_map nodes_of (take i vs) in
    let back = flat_map nodes_of (drop i vs) in
    let all : ns ≡ front ++ back = h ∙ ap (flat_map nodes_of) (sym (take-append-drop i vs))
    ∙ flat_map-append nodes_of (take i vs) (drop i vs) in
    (ap (take at) all ∙ take_at front back at (sym l), ap (drop at) all ∙ drop_at front back at (sym l))

pub front_within : (ns : List Node) (vs : List ValueTree) (i at : ℕ) → ns ≡ flat_map nodes_of vs →
    at ≡ length (flat_map nodes_of (take i vs)) → at ≤ length ns
front_within ns vs i at h l = omega (arith, l, length-take at ns, ap length (cut ns vs i at h l).0)

-- the first values' nodes go behind the others'
pub nodes_turned : (ns : List Node) (vs : List ValueTree) (i at : ℕ) → ns ≡ flat_map nodes_of vs →
    at ≡ length (flat_map nodes_of (take i vs)) →
    drop at ns ++ take at ns ≡ flat_map nodes_of (drop i vs ++ take i vs)
nodes_turned ns vs i at h l =
    let c = cut ns vs i at h l in
    (λ j. c.1 j ++ c.0 j) ∙ sym (flat_map-append nodes_of (drop i vs) (take i vs))

mutual
  -- the ends in a value are those at its cells
  ends_at-cells_of : (v : ValueTree) → flat_map ends_at (cells_of v) ≡ ends_in v
  ends_at-cells_of (int n) = refl
  ends_at-cells_of (bool b) = refl
  ends_at-cells_of (char c) = refl
  ends_at-cells_of unit = refl
  ends_at-cells_of (pair v w) =
      flat_map-append ends_at (cells_of v) (cells_of w) ∙ (λ i. ends_at-cells_of v i ++ ends_at-cells_of w i)
  ends_at-cells_of (make n o vs) = ends_at-cells_of_all vs
  ends_at-cells_of (function l vs) = ends_at-cells_of_all vs
  ends_at-cells_of (end x) = refl

  ends_at-cells_of_all : (vs : ValueTrees) → flat_map ends_at (cells_of_all vs) ≡ ends_in_all vs
  ends_at-cells_of_all none = refl
  ends_at-cells_of_all (value v vs) =
      flat_map-append ends_at (cells_of v) (cells_of_all vs) ∙ (λ i. ends_at-cells_of v i ++ ends_at-cells_of_all vs i)

-- one value more
length_more : (vs : List ValueTree) (i : ℕ) (v : ValueTree) → i < length vs →
    length (flat_map nodes_of (take (i + 1) vs)) ≡ length (flat_map nodes_of (take i vs)) + length (nodes_of (get_or vs i v))
length_more vs i v lt =
    ap (λ ws. length (flat_map nodes_of ws)) (take_more vs i v lt)
    ∙ ap length (flat_map-append nodes_of (take i vs) (get_or vs i v ∷ []))
    ∙ length-append (flat_map nodes_of (take i vs)) (nodes_of (get_or vs i v) ++ [])
    ∙ ap (λ ns. length (flat_map nodes_of (take i vs)) + length ns) (append-nil (nodes_of (get_or vs i v)))

-- a value in front of others
pub at_value : (ns : List Node) (vs : List ValueTree) (i at : ℕ) (n : Node) → ns ≡ flat_map nodes_of vs → i < length vs →
    at ≡ length (flat_map nodes_of (take i vs)) → n ≡ get_or ns at n →
    (n.size ≡ length (nodes_of (get_or vs i unit))) × (at + n.size ≡ length (flat_map nodes_of (take (i + 1) vs)))
at_value ns vs i at n h lt l r =
    let rest = flat_map nodes_of (drop (i + 1) vs) in
    let here : drop at ns ≡ nodes_of (get_or vs i unit) ++ rest = (cut ns vs i at h l).1
    ∙ ap (flat_map nodes_of) (drop_more vs i unit lt) in
    let read : n ≡ get_or (drop at ns) 0 n = r ∙ ap (λ (m : ℕ). get_or ns m n) (omega arith) ∙ sym (get_or-drop at ns 0 n) in
    let size = (first_node (drop at ns) rest n (get_or vs i unit) read here).1 in
    (size, omega (arith, l, size, length_more vs i unit lt))

-- the nodes of a value are within those of all
pub value_within : (ns : List Node) (vs : List ValueTree) (i at : ℕ) → ns ≡ flat_map nodes_of vs → i < length vs →
    at ≡ length (flat_map nodes_of (take i vs)) →
    (0 < length (nodes_of (get_or vs i unit))) × (at + length (nodes_of (get_or vs i unit)) ≤ length ns)
value_within ns vs i at h lt l =
    let v = get_or vs i unit in
    let rest = flat_map nodes_of (drop (i + 1) vs) in
    let here : drop at ns ≡ nodes_of v ++ rest = (cut ns vs i at h l).1 ∙ ap (flat_map nodes_of) (drop_more vs i unit lt) in
    let some = some_nodes v in
    let len : length ns - at ≡ length (nodes_of v) + length rest =
    sym (length-drop at ns) ∙ ap length here ∙ length-append (nodes_of v) rest in
    (some, omega (arith, some, len))

-- the ends in a value are that at its root and those among its parts
pub kept_ends : (c : Cell) (ns : List Node) (v : ValueTree) → IsKept c ns → tree_of c ns ≡ v →
    ends_at c ++ flat_map ends_at (cells_in ns) ≡ ends_in v
kept_ends c ns v k e =
    ap (λ ms. flat_map ends_at (cells_in ms)) (kept_nodes c ns v k e)
    ∙ ap (flat_map ends_at) (cells_in-nodes_of v)
    ∙ ends_at-cells_of v

pub length-listed : (vs : ValueTrees) → length (listed vs) ≡ count vs
length-listed none = refl
length-listed (value v vs) = ap (λ (n : ℕ). suc n) (length-listed vs)
