-- Values that are replaced by their parts.
use Rattle.std.proofs.Common.{◌≡◌, ◌∙◌, ℕ, suc, ◌+◌, ◌-◌, ◌<◌, ◌≤◌, true, List, [], ◌∷◌, ◌++◌, length, take, drop, get_or, set, reverse, refl, sym, ap, arith, append_assoc}
use Rattle.std.specs.Prelude.{Some, is_some}
use Rattle.std.specs.List.{flat_map}
use Rattle.std.proofs.lemmas.Bool.{false≢true}
use Rattle.std.proofs.lemmas.Grind.{flat_map-append}
use Rattle.std.proofs.lemmas.List.{append-nil, append_cancel_left, drop_all, drop_at, drop_more, drop-set-lt, get_or_read, get_or-reverse, length-append, length-drop, length-reverse, reverse-append, reverse-reverse, take_at, take-append-drop, take-set}
use Rattle.fst_value.specs.ValueTree.{ValueTree, int, bool, char, unit, pair, make, function, end, ValueTrees, none, value}
use Rattle.fst_value.specs.declared.nodes.Node.{Node}
use Rattle.fst_value.specs.Nodes.{headed, nodes_of, values_in}
use Rattle.fst_value.specs.Stacks.{stacked, applied}
use Rattle.fst_value.specs.Parts.{parts_of, listed, unjoined, form_of, function_form}
use Rattle.fst_value.specs.Cells.{first_or_unit}
use Rattle.fst_value.proofs.Turned.{last_turned, length_turned}
use Rattle.fst_value.proofs.Kept.{first_node, front_within, nodes_turned, root_nodes, some_nodes, values_are, values_in-nodes_of}

-- the value that begins with the first node is taken off: its root and the nodes of its parts, and what is left
pub first_taken : (ns rest body left : List Node) (m n : Node) (v : ValueTree) → m ≡ get_or ns 0 m → n ≡ get_or ns 0 n →
    ns ≡ nodes_of v ++ rest → body ≡ take (m.size - 1) (drop 1 ns) → left ≡ drop (m.size - 1) (drop 1 ns) →
    (headed n.cell body ≡ nodes_of v) × (left ≡ rest)
first_taken ns rest body left m n v r s h b l =
    let parts = flat_map nodes_of (listed (parts_of v)) in
    let size : length parts ≡ m.size - 1 = omega (arith, (first_node ns rest m v r h).1, ap length (root_nodes v)) in
    let behind : drop 1 ns ≡ parts ++ rest = ap (drop 1) (h ∙ ap (λ ms. ms ++ rest) (root_nodes v)) in
    let is : body ≡ parts = b ∙ ap (take (m.size - 1)) behind ∙ take_at parts rest (m.size - 1) size in (
      (λ i. headed ((first_node ns rest n v s h).0 i) (is i)) ∙ sym (root_nodes v),
      l ∙ ap (drop (m.size - 1)) behind ∙ drop_at parts rest (m.size - 1) size,
    )

-- the first of the values that nodes spell is taken off
pub next_taken : (vs : List ValueTree) (i : ℕ) (ns left : List Node) (v : ValueTree) → i < length vs →
    ns ≡ flat_map nodes_of (drop i vs) → ns ≡ nodes_of v ++ left →
    (v ≡ get_or vs i unit) × (left ≡ flat_map nodes_of (drop (i + 1) vs))
next_taken vs i ns left v lt h t =
    let w = get_or vs i unit in
    let rest = flat_map nodes_of (drop (i + 1) vs) in
    let same : nodes_of v ++ left ≡ nodes_of w ++ rest = sym t ∙ h ∙ ap (flat_map nodes_of) (drop_more vs i unit lt) in
    let is : v ≡ w = ap (λ ws. get_or ws 0 unit)
    (sym (values_in-nodes_of v left) ∙ ap values_in same ∙ values_in-nodes_of w rest) in
    (is, append_cancel_left (nodes_of w) left rest (ap (λ u. nodes_of u ++ left) (sym is) ∙ same))

-- there are nodes where there are values
pub some_left : (vs : List ValueTree) (i : ℕ) (ns : List Node) → i < length vs → ns ≡ flat_map nodes_of (drop i vs) →
    0 < length ns
some_left vs i ns lt h =
    let v = get_or vs i unit in
    let rest = flat_map nodes_of (drop (i + 1) vs) in
    let is : ns ≡ nodes_of v ++ rest = h ∙ ap (flat_map nodes_of) (drop_more vs i unit lt) in
    omega (arith, some_nodes v, ap length is, length-append (nodes_of v) rest)

-- the values that were taken off go back
pub put_back : (ns left : List Node) (vs values now : List ValueTree) (i at : ℕ) → ns ≡ flat_map nodes_of vs →
    now ≡ values ++ take i vs → at ≡ length values → left ≡ flat_map nodes_of (drop i vs) →
    flat_map nodes_of (drop at now) ++ left ≡ ns
put_back ns left vs values now i at h n a l =
    let taken : drop at now ≡ take i vs = ap (drop at) n ∙ drop_at values (take i vs) at (sym a) in
    (λ j. flat_map nodes_of (taken j) ++ l j)
    ∙ sym (flat_map-append nodes_of (take i vs) (drop i vs))
    ∙ ap (flat_map nodes_of) (take-append-drop i vs)
    ∙ sym h

-- the parts of a value, of which the first ones went behind the others
pub record AreTurned (ns : List Node) (vs : List ValueTree) (k first : ℕ) (turned : List Node) : Type 0 where
  pub within : first ≤ length ns
  pub nodes : turned ≡ flat_map nodes_of (drop k vs ++ take k vs)
  pub values : values_in turned ≡ drop k vs ++ take k vs
  pub same_count : length (values_in turned) ≡ length vs

pub are_turned : (ns turned : List Node) (vs : List ValueTree) (k first : ℕ) → ns ≡ flat_map nodes_of vs →
    first ≡ length (flat_map nodes_of (take k vs)) → turned ≡ drop first ns ++ take first ns →
    AreTurned ns vs k first turned
are_turned ns turned vs k first h f t =
    let n : turned ≡ flat_map nodes_of (drop k vs ++ take k vs) = t ∙ nodes_turned ns vs k first h f in
    let is = values_are turned (drop k vs ++ take k vs) n in
    record {
      within = front_within ns vs k first h f;
      nodes = n;
      values = is;
      same_count = ap length is ∙ length_turned vs k;
    }

-- the nodes of the last value alone
last_alone : (us : List ValueTree) (n : ℕ) → suc n ≡ length us → drop n us ≡ get_or us n unit ∷ []
last_alone us n h =
    drop_more us n unit (omega (arith, h))
    ∙ ap (λ ws. get_or us n unit ∷ ws) (drop_all (n + 1) us (omega (arith, h)))

pub last_nodes : (us : List ValueTree) (n : ℕ) (ns : List Node) → suc n ≡ length us → ns ≡ flat_map nodes_of (drop n us) →
    (first_or_unit (values_in ns) ≡ get_or us n unit) × (ns ≡ nodes_of (first_or_unit (values_in ns)))
last_nodes us n ns h l =
    let v = get_or us n unit in
    let is : ns ≡ nodes_of v ++ [] = l ∙ ap (flat_map nodes_of) (last_alone us n h) in
    let first : first_or_unit (values_in ns) ≡ v = ap (λ ms. first_or_unit (values_in ms)) is
    ∙ ap first_or_unit (values_in-nodes_of v []) in
    (first, is ∙ append-nil (nodes_of v) ∙ ap nodes_of (sym first))

-- all values are there
pub all_taken : (us values taken whole : List ValueTree) (v : ValueTree) (n : ℕ) → suc n ≡ length us →
    taken ≡ values ++ take n us → v ≡ get_or us n unit → whole ≡ taken ++ v ∷ [] → whole ≡ values ++ us
all_taken us values taken whole v n h t l w =
    w
    ∙ (λ i. t i ++ l i ∷ [])
    ∙ append_assoc values (take n us) (get_or us n unit ∷ [])
    ∙ ap (λ ws. values ++ (take n us ++ ws)) (sym (last_alone us n h))
    ∙ ap (λ ws. values ++ ws) (take-append-drop n us)

-- and the first ones go before the others again
pub turned_back : (vs values whole done : List ValueTree) (k m at : ℕ) → m + k ≡ length vs →
    whole ≡ values ++ (drop k vs ++ take k vs) → at ≡ length values →
    done ≡ take at whole ++ (drop m (drop at whole) ++ take m (drop at whole)) →
    done ≡ values ++ vs
turned_back vs values whole done k m at h w a d =
    let us = drop k vs ++ take k vs in
    let low : take at whole ≡ values = ap (take at) w ∙ take_at values us at (sym a) in
    let high : drop at whole ≡ us = ap (drop at) w ∙ drop_at values us at (sym a) in
    let len : length (drop k vs) ≡ m = length-drop k vs ∙ omega (arith, h) in
    d
    ∙ (λ i. low i ++ (drop m (high i) ++ take m (high i)))
    ∙ (λ i. values ++ (drop_at (drop k vs) (take k vs) m len i ++ take_at (drop k vs) (take k vs) m len i))
    ∙ ap (λ ws. values ++ ws) (take-append-drop k vs)

stacked_on : (vs : ValueTrees) (ops : List ValueTree) → stacked vs ops ≡ listed vs ++ ops
stacked_on none ops = refl
stacked_on (value v vs) ops = ap (λ os. v ∷ os) (stacked_on vs ops)

-- the last value is replaced by its parts, which are turned round
pub split_whole : (values rest parts now : List ValueTree) (v : ValueTree) (at : ℕ) → values ≡ rest ++ v ∷ [] → at ≡ length rest →
    parts ≡ rest ++ listed (parts_of v) → now ≡ take at parts ++ reverse (drop at parts) →
    reverse now ≡ unjoined (reverse values)
split_whole values rest parts now v at h a p n =
    let vs = listed (parts_of v) in
    let low : take at parts ≡ rest = ap (take at) p ∙ take_at rest vs at (sym a) in
    let high : drop at parts ≡ vs = ap (drop at) p ∙ drop_at rest vs at (sym a) in
    ap reverse (n ∙ (λ i. low i ++ reverse (high i)))
    ∙ reverse-append rest (reverse vs)
    ∙ ap (λ ws. ws ++ reverse rest) (reverse-reverse vs)
    ∙ sym (stacked_on (parts_of v) (reverse rest))
    ∙ ap unjoined (sym (ap reverse h ∙ last_turned rest v))

applied_below : (ops : List ValueTree) → 1 < length ops → is_some (applied ops) ≡ function_form (form_of (get_or ops 1 unit))
applied_below [] h = absurd (omega (arith, h))
applied_below (w ∷ []) h = absurd (omega (arith, h))
applied_below (w ∷ int n ∷ ops) h = refl
applied_below (w ∷ bool b ∷ ops) h = refl
applied_below (w ∷ char c ∷ ops) h = refl
applied_below (w ∷ unit ∷ ops) h = refl
applied_below (w ∷ pair u v ∷ ops) h = refl
applied_below (w ∷ make n o vs ∷ ops) h = refl
applied_below (w ∷ function l vs ∷ ops) h = refl
applied_below (w ∷ end x ∷ ops) h = refl

-- whether the value before the last one is a function
pub is_call : (values : List ValueTree) (v : ValueTree) (i : ℕ) → 1 < length values → i ≡ length values - 2 →
    v ≡ get_or values i v →
    function_form (form_of v) ≡ is_some (applied (reverse values))
is_call values v i lt e r =
    let n : i ≡ length values - 1 - 1 = omega (arith, e) in
    ap (λ u. function_form (form_of u)) (get_or_read values i v (omega (arith, e, lt)) r unit
    ∙ ap (λ (m : ℕ). get_or values m unit) n ∙ sym (get_or-reverse values 1 unit lt))
    ∙ sym (applied_below (reverse values) (omega (arith, lt, length-reverse values)))

applied_taken : (w v : ValueTree) (ops : List ValueTree) → function_form (form_of v) ≡ true →
    applied (w ∷ v ∷ ops) ≡ Some (listed (parts_of v), w ∷ ops)
applied_taken w (function l vs) ops h = refl
applied_taken w (int n) ops h = absurd (false≢true h)
applied_taken w (bool b) ops h = absurd (false≢true h)
applied_taken w (char c) ops h = absurd (false≢true h)
applied_taken w unit ops h = absurd (false≢true h)
applied_taken w (pair u v) ops h = absurd (false≢true h)
applied_taken w (make n o vs) ops h = absurd (false≢true h)
applied_taken w (end x) ops h = absurd (false≢true h)

applied_long : (ops : List ValueTree) → is_some (applied ops) ≡ true → 1 < length ops
applied_long [] h = absurd (false≢true h)
applied_long (w ∷ []) h = absurd (false≢true h)
applied_long (w ∷ v ∷ ops) h = omega arith

-- a function before the last value is taken off, after what it captured was moved and something else stands in its place
pub function_taken : (values now parts : List ValueTree) (v u : ValueTree) (i : ℕ) → is_some (applied (reverse values)) ≡ true →
    i ≡ length values - 2 → v ≡ get_or values i v → parts ≡ listed (parts_of v) →
    now ≡ take i (set values i u) ++ drop (suc i) (set values i u) →
    applied (reverse values) ≡ Some (parts, reverse now)
function_taken values now parts v u i c e r p n =
    let lt : 1 < length values = omega (arith, applied_long (reverse values) c, length-reverse values) in
    let w = get_or values (i + 1) unit in
    let ops = take i values in
    let next : suc i ≡ i + 1 = omega arith in
    let last : drop (i + 1) values ≡ w ∷ [] = drop_more values (i + 1) unit (omega (arith, lt, e)) ∙ ap
    (λ ws. w ∷ ws) (drop_all (i + 1 + 1) values (omega (arith, lt, e))) in
    let all : values ≡ ops ++ v ∷ w ∷ [] = sym (take-append-drop i values) ∙ ap (λ ws. ops ++ ws)
    (drop_more values i v (omega (arith, lt, e)) ∙ (λ j. sym r j ∷ last j)) in
    let after : now ≡ ops ++ w ∷ [] = n
    ∙ (λ j. take-set values i u j ++ drop-set-lt (suc i) values i u (omega arith) j)
    ∙ ap (λ (m : ℕ). ops ++ drop m values) next
    ∙ ap (λ ws. ops ++ ws) last in
    ap (λ ws. applied (reverse ws)) all
    ∙ ap applied (reverse-append ops (v ∷ w ∷ []))
    ∙ applied_taken w v (reverse ops) (is_call values v i lt e r ∙ c)
    ∙ (λ j. Some (sym p j, sym (ap reverse after ∙ last_turned ops w) j))
