-- What is written of a value by pieces.
use Rattle.std.proofs.Common.{◌≡◌, ◌∙◌, ◌⊎◌, inl, inr, ℕ, zero, suc, ◌+◌, ◌-◌, ◌<◌, ◌≤◌, Bool, true, false, List, [], ◌∷◌, ◌++◌, length, drop, get_or, reverse}
use Rattle.std.proofs.Common.{Result, Ok, Err, refl, sym, ap, arith, rules, append_assoc}
use Rattle.std.specs.Prelude.{Option, Some, None, IfOk, is_some, slice_get, codes, nat_lt, ◌&&◌, if◌then◌else◌}
use Rattle.std.specs.List.{flat_map}
use Rattle.std.proofs.lemmas.Bool.Decides.{nat_tests}
use Rattle.std.proofs.lemmas.List.{append-nil, drop-drop, drop_all, drop_at, get_or-drop, length-append, length-drop, length-reverse}
use Rattle.fst_types.specs.declared.family.Family.{Family}
use Rattle.fst_types.specs.declared.family.Maker.{Maker}
use Rattle.fst_value.specs.ValueTree.{ValueTree, int, bool, char, unit, pair, make, function, end, ValueTrees, none, value}
use Rattle.fst_value.specs.declared.cells.Cell.{Cell}
use Rattle.fst_value.specs.declared.cells.Cell.TheVariants as cell
use Rattle.fst_value.specs.declared.nodes.Node.{Node}
use Rattle.fst_value.specs.declared.printing.Piece.{Piece}
use Rattle.fst_value.specs.declared.printing.Piece.TheVariants.{Close, Next, Fields}
use Rattle.fst_value.specs.Stacks.{stacked}
use Rattle.fst_value.specs.Cells.{count, taken}
use Rattle.fst_value.specs.CellFacts.{taken-stacked, drop-stacked}
use Rattle.fst_value.specs.Nodes.{AreNodes, nodes_of, nodes_of_all, values_in, IsKept, tree_of}
use Rattle.fst_value.specs.Parts.{root_of, parts_of, listed}
use Rattle.fst_value.specs.Texts.{is_enclosed, made_text, maker_in, value_text, fields_text}
use Rattle.fst_value.specs.Pieces.{behind_root, pieces_text, maker_name, made_pieces, root_text, root_pieces, root_enclosed, is_shown, weight}
use Rattle.fst_value.proofs.Kept.{IsFirst, are_nodes, first_is, first_node, kept_parts, nodes-listed, root_nodes, some_nodes, values_are}

-- the nodes of values in front of others
nodes-stacked : (vs : ValueTrees) (ws : List ValueTree) →
    flat_map nodes_of (stacked vs ws) ≡ nodes_of_all vs ++ flat_map nodes_of ws
nodes-stacked none ws = refl
nodes-stacked (value v vs) ws =
    ap (λ ns. nodes_of v ++ ns) (nodes-stacked vs ws) ∙ sym (append_assoc (nodes_of v) (nodes_of_all vs) (flat_map nodes_of ws))

-- behind the first root there are its parts and the other values
parts_behind : (ns : List Node) (v : ValueTree) (rest : List ValueTree) → IsFirst ns v rest →
    drop 1 ns ≡ flat_map nodes_of (stacked (parts_of v) rest)
parts_behind ns v rest f =
    ap (drop 1) (f.nodes ∙ ap (λ ms. ms ++ flat_map nodes_of rest) (root_nodes v))
    ∙ ap (λ ms. ms ++ flat_map nodes_of rest) (nodes-listed (parts_of v))
    ∙ sym (nodes-stacked (parts_of v) rest)

-- behind the first value there are the other values
others_behind : (ns : List Node) (v : ValueTree) (rest : List ValueTree) → IsFirst ns v rest →
    behind_root false ns ≡ flat_map nodes_of rest
others_behind ns v rest f = ap (λ vs. flat_map nodes_of (drop 1 vs)) f.values

-- the place behind a root, and that behind its value
pub record IsBehind (ns : List Node) (at place : ℕ) (shown : Bool) : Type 0 where
  pub rest : drop place ns ≡ behind_root shown (drop at ns)
  pub nodes : AreNodes (drop place ns)
  pub fewer : at < place
  pub within : place ≤ length ns

from_first : (ns : List Node) (at : ℕ) → at < length ns → AreNodes (drop at ns) →
    (v : ValueTree) × (rest : List ValueTree) × IsFirst (drop at ns) v rest
from_first ns at lt a = first_is (drop at ns) (omega (arith, lt, length-drop at ns)) a

pub behind_root_place : (ns : List Node) (at : ℕ) → at < length ns → AreNodes (drop at ns) → IsBehind ns at (at + 1) true
behind_root_place ns at lt a =
    let f = from_first ns at lt a in
    let is : drop (at + 1) ns ≡ drop 1 (drop at ns) = sym (drop-drop 1 at ns) in
    record {
      rest = is;
      nodes = are_nodes _ (stacked (parts_of f.0) f.1) (is ∙ parts_behind (drop at ns) f.0 f.1 f.2);
      fewer = omega arith;
      within = omega (arith, lt);
    }

pub behind_value_place : (ns : List Node) (at : ℕ) (n : Node) → at < length ns → AreNodes (drop at ns) → n ≡ get_or ns at n →
    IsBehind ns at (at + n.size) false
behind_value_place ns at n lt a r =
    let f = from_first ns at lt a in
    let others = flat_map nodes_of f.1 in
    let read : n ≡ get_or (drop at ns) 0 n = r ∙ ap (λ (m : ℕ). get_or ns m n) (omega arith) ∙ sym (get_or-drop at ns 0 n) in
    let size = (first_node (drop at ns) others n f.0 read f.2.nodes).1 in
    let is : drop (at + n.size) ns ≡ others = sym (drop-drop n.size at ns)
    ∙ ap (drop n.size) f.2.nodes
    ∙ drop_at (nodes_of f.0) others n.size (sym size) in
    record {
      rest = is ∙ sym (others_behind (drop at ns) f.0 f.1 f.2);
      nodes = are_nodes _ f.1 is;
      fewer = omega (arith, size, some_nodes f.0);
      within = omega (arith, lt, size, ap length f.2.nodes, length-append (nodes_of f.0) others, length-drop at ns);
    }

joined : (s t u v w : List ℕ) → (((s ++ t) ++ u) ++ v) ++ w ≡ s ++ (t ++ (u ++ (v ++ w)))
joined s t u v w = append_assoc ((s ++ t) ++ u) v w ∙ append_assoc (s ++ t) u (v ++ w) ∙ append_assoc s t (u ++ (v ++ w))

make_shown : (families : List Family) (m : Option Maker) (vs : ValueTrees) (ps : List Piece) (rest : List ValueTree) →
    is_some m ≡ true →
    made_text m (fields_text families vs) ++ pieces_text families ps rest ≡ maker_name m ++ pieces_text families
    (made_pieces m (count vs) ++ ps) (stacked vs rest)
make_shown families (Some m) vs ps rest h =
    append_assoc m.name (fields_text families vs) (pieces_text families ps rest)
    ∙ (λ i. m.name ++ (fields_text families (sym (taken-stacked vs rest) i) ++ pieces_text families ps
    (sym (drop-stacked vs rest) i)))
make_shown families None vs ps rest h = absurd (cc h)

-- a value whose parts are written
first_shown : (families : List Family) (v : ValueTree) (ps : List Piece) (rest : List ValueTree) →
    is_shown families (root_of v) ≡ true →
    value_text families v ++ pieces_text families ps rest ≡ root_text families (root_of v) ++ pieces_text families
    (root_pieces families (root_of v) ++ ps) (stacked (parts_of v) rest)
first_shown families (int n) ps rest h = refl
first_shown families (bool b) ps rest h = refl
first_shown families (char c) ps rest h = refl
first_shown families unit ps rest h = refl
first_shown families (pair v w) ps rest h =
    ap (λ x. codes "(" ++ x) (joined (value_text families v) (codes ", ") (value_text families w) (codes ")")
    (pieces_text families ps rest))
first_shown families (make n o vs) ps rest h = make_shown families (maker_in (slice_get families n) o) vs ps rest h
first_shown families (function l vs) ps rest h = absurd (cc h)
first_shown families (end x) ps rest h = absurd (cc h)

make_hidden : (families : List Family) (m : Option Maker) (k : ℕ) (fields : List ℕ) (ps : List Piece) (rest : List ValueTree) →
    is_some m ≡ false →
    made_text m fields ++ pieces_text families ps rest ≡ maker_name m ++ pieces_text families (made_pieces m k ++ ps) rest
make_hidden families (Some m) k fields ps rest h = absurd (cc h)
make_hidden families None k fields ps rest h = refl

-- a value whose parts aren't written
first_hidden : (families : List Family) (v : ValueTree) (ps : List Piece) (rest : List ValueTree) →
    is_shown families (root_of v) ≡ false →
    value_text families v ++ pieces_text families ps rest ≡ root_text families (root_of v) ++ pieces_text families
    (root_pieces families (root_of v) ++ ps) rest
first_hidden families (int n) ps rest h = absurd (cc h)
first_hidden families (bool b) ps rest h = absurd (cc h)
first_hidden families (char c) ps rest h = absurd (cc h)
first_hidden families unit ps rest h = absurd (cc h)
first_hidden families (pair v w) ps rest h = absurd (cc h)
first_hidden families (make n o vs) ps rest h =
    make_hidden families (maker_in (slice_get families n) o) (count vs) (fields_text families vs) ps rest h
first_hidden families (function l vs) ps rest h = refl
first_hidden families (end x) ps rest h = refl

begun : (families : List Family) (ns back : List Node) (v : ValueTree) (rest : List ValueTree) (shown : Bool) (ps : List Piece) →
    IsFirst ns v rest → shown ≡ is_shown families (root_of v) → back ≡ behind_root shown ns →
    root_text families (root_of v) ++ pieces_text families (root_pieces families (root_of v) ++ ps) (values_in back)
    ≡ pieces_text families (Next ∷ ps) (values_in ns)
begun families ns back v rest true ps f h r =
    let is = values_are back (stacked (parts_of v) rest) (r ∙ parts_behind ns v rest f) in
    ap (λ vs. root_text families (root_of v) ++ pieces_text families (root_pieces families (root_of v) ++ ps) vs) is
    ∙ sym (first_shown families v ps rest (sym h))
    ∙ ap (pieces_text families (Next ∷ ps)) (sym f.values)
begun families ns back v rest false ps f h r =
    let is = values_are back rest (r ∙ others_behind ns v rest f) in
    ap (λ vs. root_text families (root_of v) ++ pieces_text families (root_pieces families (root_of v) ++ ps) vs) is
    ∙ sym (first_hidden families v ps rest (sym h))
    ∙ ap (pieces_text families (Next ∷ ps)) (sym f.values)

-- the root that is read at a place
root_read : (ns : List Node) (at : ℕ) (n : Node) (v : ValueTree) (rest : List ValueTree) → n ≡ get_or ns at n →
    IsFirst (drop at ns) v rest → n.cell ≡ root_of v
root_read ns at n v rest r f =
    let read : n ≡ get_or (drop at ns) 0 n = r ∙ ap (λ (m : ℕ). get_or ns m n) (omega arith) ∙ sym (get_or-drop at ns 0 n) in
    (first_node (drop at ns) (flat_map nodes_of rest) n v read f.nodes).0

-- how the first value begins and what comes behind that are its text
pub first_begun : (families : List Family) (ns back : List Node) (at : ℕ) (n : Node) (shown : Bool) (old new : List ℕ)
    (ps qs : List Piece) → at < length ns → AreNodes (drop at ns) → n ≡ get_or ns at n → shown ≡ is_shown families n.cell →
    back ≡ behind_root shown (drop at ns) → new ≡ old ++ root_text families n.cell → qs ≡ root_pieces families n.cell ++ ps →
    new ++ pieces_text families qs (values_in back) ≡ old ++ pieces_text families (Next ∷ ps) (values_in (drop at ns))
first_begun families ns back at n shown old new ps qs lt a r h b t q =
    let f = from_first ns at lt a in
    let root = root_read ns at n f.0 f.1 r f.2 in
    let begins = root_text families (root_of f.0) in
    let more = root_pieces families (root_of f.0) ++ ps in
    (λ i. (t ∙ ap (λ c. old ++ root_text families c) root) i ++ pieces_text families
    ((q ∙ ap (λ c. root_pieces families c ++ ps) root) i) (values_in back))
    ∙ append_assoc old begins (pieces_text families more (values_in back))
    ∙ ap (λ text. old ++ text) (begun families (drop at ns) back f.0 f.1 shown ps f.2 (h ∙ ap (is_shown families) root) b)

some_fields : (k : ℕ) → nat_lt 0 (suc k) ≡ true
some_fields k = search (rules, nat_tests)

-- whether a value stands in parentheses as a field is seen at its root
root_is_enclosed : (families : List Family) (v : ValueTree) → root_enclosed families (root_of v) ≡ is_enclosed families v
root_is_enclosed families (int n) = refl
root_is_enclosed families (bool b) = refl
root_is_enclosed families (char c) = refl
root_is_enclosed families unit = refl
root_is_enclosed families (pair v w) = refl
root_is_enclosed families (make n o none) = refl
root_is_enclosed families (make n o (value v vs)) =
    ap (λ b. b && is_some (maker_in (slice_get families n) o)) (some_fields (count vs))
root_is_enclosed families (function l vs) = refl
root_is_enclosed families (end x) = refl

-- where nothing is left, no field is written
pub no_field : (families : List Family) (k : ℕ) (ps : List Piece) (ns : List Node) → (k ≡ 0) ⊎ (length ns ≡ 0) →
    pieces_text families ps (values_in ns) ≡ pieces_text families (Fields k ∷ ps) (values_in ns)
no_field families k ps ns (inl z) = ap (λ (n : ℕ). pieces_text families (Fields n ∷ ps) (values_in ns)) (sym z)
no_field families zero ps [] (inr z) = refl
no_field families (suc k) ps [] (inr z) = refl
no_field families k ps (n ∷ ns) (inr z) = absurd (omega (arith, z))

field_in : (families : List Family) (text fields : List ℕ) (b : Bool) (ps : List Piece) (vs ws : List ValueTree) (k : ℕ) →
    fields ≡ fields_text families (taken k vs) → ws ≡ drop k vs →
    (if b then codes "(" else []) ++ (text ++ pieces_text families ((if b then Close ∷ [] else []) ++ (Fields k ∷ ps)) vs)
    ≡ ((if b then codes "(" ++ text ++ codes ")" else text) ++ fields) ++ pieces_text families ps ws
field_in families text fields true ps vs ws k f w =
    ap (λ x. codes "(" ++ x)
    ((λ i. text ++ (codes ")" ++ (sym f i ++ pieces_text families ps (sym w i))))
    ∙ sym (append_assoc (text ++ codes ")") fields (pieces_text families ps ws)
    ∙ append_assoc text (codes ")") (fields ++ pieces_text families ps ws)))
field_in families text fields false ps vs ws k f w =
    (λ i. text ++ (sym f i ++ pieces_text families ps (sym w i))) ∙ sym (append_assoc text fields (pieces_text families ps ws))

field : (families : List Family) (k : ℕ) (b : Bool) (ps : List Piece) (v : ValueTree) (vs : List ValueTree) →
    b ≡ is_enclosed families v →
    codes " " ++ ((if b then codes "(" else []) ++ pieces_text families
    (Next ∷ ((if b then Close ∷ [] else []) ++ (Fields k ∷ ps))) (v ∷ vs))
    ≡ pieces_text families (Fields (suc k) ∷ ps) (v ∷ vs)
field families k b ps v vs h =
    let text = value_text families v in
    ap (λ x. codes " " ++ x)
    (field_in families text (fields_text families (taken k vs)) b ps vs (drop k vs) k refl refl
    ∙ ap (λ d. ((if d then codes "(" ++ text ++ codes ")" else text) ++ fields_text families (taken k vs)) ++ pieces_text families
    ps (drop k vs)) h)

-- a field begins with a space, and the other fields come behind it
pub field_begun : (families : List Family) (ns : List Node) (at : ℕ) (n : Node) (k : ℕ) (b : Bool) (old spaced opened : List ℕ)
    (ps qs rs : List Piece) → at < length ns → AreNodes (drop at ns) → n ≡ get_or ns at n → b ≡ root_enclosed families n.cell →
    0 < k → spaced ≡ old ++ codes " " → opened ≡ spaced ++ (if b then codes "(" else []) →
    qs ≡ Fields (k - 1) ∷ ps → rs ≡ (if b then Close ∷ [] else []) ++ qs →
    opened ++ pieces_text families (Next ∷ rs) (values_in (drop at ns)) ≡ old ++ pieces_text families (Fields k ∷ ps)
    (values_in (drop at ns))
field_begun families ns at n k b old spaced opened ps qs rs lt a r h pos s o q t =
    let f = from_first ns at lt a in
    let vs = values_in (drop at ns) in
    let mark = if b then codes "(" else [] in
    let close = if b then Close ∷ [] else [] in
    let e : b ≡ is_enclosed families f.0 = h ∙ ap (root_enclosed families) (root_read ns at n f.0 f.1 r f.2)
    ∙ root_is_enclosed families f.0 in
    let m : suc (k - 1) ≡ k = omega (arith, pos) in
    let rest = pieces_text families (Next ∷ (close ++ (Fields (k - 1) ∷ ps))) vs in
    (λ i. (o ∙ ap (λ t. t ++ mark) s) i ++ pieces_text families (Next ∷ (t ∙ ap (λ ps. close ++ ps) q) i) vs)
    ∙ append_assoc (old ++ codes " ") mark rest
    ∙ append_assoc old (codes " ") (mark ++ rest)
    ∙ ap (λ ws. old ++ (codes " " ++ (mark ++ pieces_text families (Next ∷ (close ++ (Fields (k - 1) ∷ ps))) ws))) f.2.values
    ∙ ap (λ x. old ++ x) (field families (k - 1) b ps f.0 f.1 e)
    ∙ ap (λ ws. old ++ pieces_text families (Fields (suc (k - 1)) ∷ ps) ws) (sym f.2.values)
    ∙ ap (λ (j : ℕ). old ++ pieces_text families (Fields j ∷ ps) vs) m

few_made : (m : Option Maker) (k : ℕ) → length (made_pieces m k) ≤ 3
few_made (Some m) k = omega arith
few_made None k = omega arith

few_pieces : (families : List Family) (c : Cell) → length (root_pieces families c) ≤ 3
few_pieces families (cell.Int n) = omega arith
few_pieces families (cell.Bool b) = omega arith
few_pieces families (cell.Char c) = omega arith
few_pieces families cell.Unit = omega arith
few_pieces families cell.Pair = omega arith
few_pieces families (cell.Make n o k) = few_made (maker_in (slice_get families n) o) k
few_pieces families (cell.Function l k) = omega arith
few_pieces families (cell.End x) = omega arith

-- a root leaves fewer nodes and few more pieces
pub less_begun : (families : List Family) (c : Cell) (ps qs : List Piece) (ns : List Node) (at place : ℕ) →
    reverse qs ≡ root_pieces families c ++ reverse ps → at < length ns → at < place →
    4 + weight qs (drop place ns) ≤ weight ps (drop at ns)
less_begun families c ps qs ns at place h lt fewer =
    omega (
      arith,
      few_pieces families c,
      length-reverse qs,
      length-reverse ps,
      ap length h,
      length-append (root_pieces families c) (reverse ps),
      length-drop at ns,
      length-drop place ns,
    )

-- where there is an answer, what equals a text equals what that text equals
pub onward : {T E : Type 0} (r : Result T E) (f : T → List ℕ) (text more : List ℕ) → IfOk r (λ x. f x ≡ text) → text ≡ more →
    IfOk r (λ x. f x ≡ more)
onward (Ok x) f text more h e = h ∙ e
onward (Err x) f text more h e = h

-- behind the root of a value its parts are to come, if they are shown
pub parts_left : (c : Cell) (ns : List Node) (v : ValueTree) (shown : Bool) (at : ℕ) → IsKept c ns → tree_of c ns ≡ v →
    at ≡ (if shown then 0 else length ns) → drop at ns ≡ flat_map nodes_of (if shown then listed (parts_of v) else [])
parts_left c ns v true at k e a = ap (λ (n : ℕ). drop n ns) a ∙ (kept_parts c ns v k e).1
parts_left c ns v false at k e a = ap (λ (n : ℕ). drop n ns) a ∙ drop_all (length ns) ns (omega arith)

root_begun : (families : List Family) (v : ValueTree) (shown : Bool) → shown ≡ is_shown families (root_of v) →
    root_text families (root_of v) ++ pieces_text families (root_pieces families (root_of v) ++ [])
    (if shown then listed (parts_of v) else []) ≡ value_text families v
root_begun families v true h = sym (first_shown families v [] [] (sym h)) ∙ append-nil (value_text families v)
root_begun families v false h = sym (first_hidden families v [] [] (sym h)) ∙ append-nil (value_text families v)

-- with the root they are its text
pub parts_to_come : (families : List Family) (c : Cell) (ns : List Node) (v : ValueTree) (shown : Bool) (at : ℕ) (text : List ℕ)
    (ps : List Piece) → IsKept c ns → tree_of c ns ≡ v → at ≡ (if shown then 0 else length ns) →
    shown ≡ is_shown families c → text ≡ root_text families c → ps ≡ root_pieces families c ++ [] →
    text ++ pieces_text families ps (values_in (drop at ns)) ≡ value_text families v
parts_to_come families c ns v shown at text ps k e a h t p =
    let root = (kept_parts c ns v k e).0 in
    let is = values_are (drop at ns) (if shown then listed (parts_of v) else []) (parts_left c ns v shown at k e a) in
    (λ i. (t ∙ ap (root_text families) root) i ++ pieces_text families
    ((p ∙ ap (λ d. root_pieces families d ++ []) root) i) (is i))
    ∙ root_begun families v shown (h ∙ ap (is_shown families) root)
