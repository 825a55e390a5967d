-- What is counted of trees, and kept with their numbers.
use Rattle.std.proofs.Common.{◌≡◌, ◌∙◌, ◌+◌, ◌<◌, ◌^◌, ◌⊎◌, inl, inr, refl, sym, ap, subst, arith, ℕ, zero, suc, List, [], ◌∷◌, length, map, Bool, true, false, cond, not, Some}
use Rattle.std.specs.Prelude.{if◌then◌else◌, slice_get, option_map}
use Rattle.std.specs.List.{position_or_len}
use Rattle.std.specs.Str.{bytes_eq}
use Rattle.std.specs.Map.{keys_of, values_of}
use Rattle.std.proofs.lemmas.List.{length-map}
use Rattle.std.proofs.lemmas.Option.{slice_get-map}
use Rattle.std.specs.declared.vec.Vec.{Vec}
use Rattle.std.specs.declared.alloc.Global.{Global}
use Rattle.indexmap.specs.IndexMap.{insert_entry}
use Rattle.fst_types.specs.declared.kind.Use.TheVariants.{Many, Once}
use Rattle.fst_types.specs.Tree.{Tree, skip, send, receive, close, wait, select, offer, seq, rec, back, var, plain, arrow, pair, named, Branches, none, branch}
use Rattle.fst_types.specs.Size.{nodes, nodes_all}
use Rattle.fst_parts.specs.declared.forms.Form.{Form}
use Rattle.fst_parts.specs.declared.forms.Form.TheVariants as forms
use Rattle.fst_parts.specs.declared.counts.Counts.{Counts}
use Rattle.fst_parts.specs.Place.{open_depth, open_depths}
use Rattle.fst_parts.specs.Shapes.{Shape, end, leaf, wrap, fork, link, shape_of, shape_of_all}
use Rattle.fst_parts.specs.Keys.{leaf_key, wrap_key, fork_key, link_key, place, with_key, Stands}
use Rattle.fst_parts.specs.Kept.{items_of}
use Rattle.fst_parts.specs.Counts.{end_counts, leaf_counts, wrap_counts, fork_counts, link_counts, counts_of, HasCounts, AreCounts, HasFewNodes, HaveFewNodes}
use Rattle.fst_parts.proofs.KeyLaws.{one_shape, put_keeps, put_leaf, put_end, put_wrap, put_fork, put_link}
use Rattle.fst_parts.proofs.KeyTable.{place_is, with_entry}

-- those of branches count the choice too
abbrev branch_counts : Branches → Counts
branch_counts cs = record {
  nodes = nodes_all cs + 1;
  open_depth = open_depths cs;
  terminated =
      (counts_of (shape_of_all cs)).terminated;
}

-- the counts of a tree
abbrev tree_counts : Tree → Counts
tree_counts t = record { nodes = nodes t; open_depth = open_depth t; terminated = (counts_of (shape_of t)).terminated }

mutual
  counts_of_tree : (t : Tree) → counts_of (shape_of t) ≡ tree_counts t
  counts_of_tree skip = refl
  counts_of_tree (send b) = refl
  counts_of_tree (receive b) = refl
  counts_of_tree close = refl
  counts_of_tree wait = refl
  counts_of_tree (select cs) = ap (wrap_counts forms.Select) (counts_of_branches cs)
  counts_of_tree (offer cs) = ap (wrap_counts forms.Offer) (counts_of_branches cs)
  counts_of_tree (seq s r) = λ i. fork_counts forms.Seq (counts_of_tree s i) (counts_of_tree r i)
  counts_of_tree (rec s) = ap (wrap_counts forms.Rec) (counts_of_tree s)
  counts_of_tree (back k) = refl
  counts_of_tree (var k) = refl
  counts_of_tree (plain b) = refl
  counts_of_tree (arrow Many s r) = λ i. fork_counts forms.Many (counts_of_tree s i) (counts_of_tree r i)
  counts_of_tree (arrow Once s r) = λ i. fork_counts forms.Once (counts_of_tree s i) (counts_of_tree r i)
  counts_of_tree (pair s r) = λ i. fork_counts forms.Pair (counts_of_tree s i) (counts_of_tree r i)
  counts_of_tree (named k) = refl

  counts_of_branches : (cs : Branches) → counts_of (shape_of_all cs) ≡ branch_counts cs
  counts_of_branches none = refl
  counts_of_branches (branch l s cs) =
      let more : nodes s + (nodes_all cs + 1) + 1 ≡ nodes s + 1 + nodes_all cs + 1 = omega arith in
      (λ i. link_counts (counts_of_tree s i) (counts_of_branches cs i))
      ∙ λ i. record { nodes = more i; open_depth = open_depths (branch l s cs); terminated = false }

-- the counts of a tree's shape are those of the tree
pub nodes_of_tree : (t : Tree) → (counts_of (shape_of t)).nodes ≡ nodes t
nodes_of_tree t = ap (λ (c : Counts). c.nodes) (counts_of_tree t)

pub depth_of_tree : (t : Tree) → (counts_of (shape_of t)).open_depth ≡ open_depth t
depth_of_tree t = ap (λ (c : Counts). c.open_depth) (counts_of_tree t)

nodes_of_branches : (cs : Branches) → (counts_of (shape_of_all cs)).nodes ≡ nodes_all cs + 1
nodes_of_branches cs = ap (λ (c : Counts). c.nodes) (counts_of_branches cs)

-- a tree with a number has a key
pub stands_within : (keys : List (List ℕ)) (x : Shape) (at : ℕ) → Stands keys at x → at < length keys
stands_within keys end at h = h.1
stands_within keys (leaf form holds) at h = h.1
stands_within keys (wrap form x) at h = h.0.1
stands_within keys (fork form x y) at h = h.0.1
stands_within keys (link l x y) at h = h.0.1

-- the counts that are kept are those of each tree with this number
pub read_counts : (keys : List (List ℕ)) (at : ℕ) (c : Counts) (x : Shape) → HasCounts keys at c → Stands keys at x →
    c ≡ counts_of x
read_counts keys at c x h k = h.counts ∙ ap counts_of (one_shape keys h.shape x at h.stands k)

pub within_entries : (es : List (Vec ℕ Global × Counts)) (at : ℕ) (x : Shape) → Stands (map items_of (keys_of es)) at x →
    at < length es
within_entries es at x h =
    subst (λ n. at < n) (length-map (keys_of es) items_of ∙ length-map es (λ e. e.0))
    (stands_within (map items_of (keys_of es)) x at h)

-- what an entry has is what is kept
pub kept_counts : (es : List (Vec ℕ Global × Counts)) (at : ℕ) (e : Vec ℕ Global × Counts) →
    AreCounts (map items_of (keys_of es)) (values_of es) → Some e ≡ slice_get es at → HasCounts (map items_of (keys_of es)) at e.1
kept_counts es at e h g = h at e.1 (slice_get-map (λ x. x.1) es at ∙ ap (option_map (λ x. x.1)) (sym g))

module _ (eq : Vec ℕ Global → Vec ℕ Global → Bool) (v : Vec ℕ Global)
    (says : (k : Vec ℕ Global) → eq v k ≡ bytes_eq v.items k.items) (c : Counts) where
  -- what the table has once counts are put: these at the place of their key, and else what it had
  value_at : (es : List (Vec ℕ Global × Counts)) (at : ℕ) (d : Counts) →
      slice_get (values_of (insert_entry eq es v c)) at ≡ Some d →
      ((position_or_len (eq v) (keys_of es) ≡ at) × (d ≡ c)) ⊎ (slice_get (values_of es) at ≡ Some d)
  value_at [] zero d g = inl (refl, cc)
  value_at [] (suc at) d g = absurd (cc g)
  value_at (p ∷ es) at d g = pick (value_at es) (eq v p.0) at g
    where
      pick : ((at : ℕ) (d : Counts) → slice_get (values_of (insert_entry eq es v c)) at ≡ Some d →
          ((position_or_len (eq v) (keys_of es) ≡ at) × (d ≡ c)) ⊎ (slice_get (values_of es) at ≡ Some d)) →
          (b : Bool) (at : ℕ) → slice_get (values_of (if b then (p.0, c) ∷ es else p ∷ insert_entry eq es v c)) at ≡ Some d →
          ((cond (not b) (1 + position_or_len (eq v) (keys_of es)) 0 ≡ at) × (d ≡ c)) ⊎
          (slice_get (p.1 ∷ values_of es) at ≡ Some d)
      pick next true zero g = inl (refl, cc)
      pick next true (suc at) g = inr g
      pick next false zero g = inr g
      pick next false (suc at) g = by (next at d g)
        where
          by : ((position_or_len (eq v) (keys_of es) ≡ at) × (d ≡ c)) ⊎ (slice_get (values_of es) at ≡ Some d) →
              ((1 + position_or_len (eq v) (keys_of es) ≡ suc at) × (d ≡ c)) ⊎ (slice_get (values_of es) at ≡ Some d)
          by (inl h) = let e = h.0 in inl (omega arith, h.1)
          by (inr h) = inr h

  -- all counts are kept right
  pub counts_put : (es : List (Vec ℕ Global × Counts)) → AreCounts (map items_of (keys_of es)) (values_of es) →
      HasCounts (with_key (map items_of (keys_of es)) v.items) (place (map items_of (keys_of es)) v.items) c →
      AreCounts (map items_of (keys_of (insert_entry eq es v c))) (values_of (insert_entry eq es v c))
  counts_put es old new at d g = by (value_at es at d g)
    where
      is : map items_of (keys_of (insert_entry eq es v c)) ≡ with_key (map items_of (keys_of es)) v.items
      is = with_entry eq v says c es

      by : ((position_or_len (eq v) (keys_of es) ≡ at) × (d ≡ c)) ⊎
          (slice_get (values_of es) at ≡ Some d) → HasCounts (map items_of (keys_of (insert_entry eq es v c))) at d
      by (inl h) =
          let here : place (map items_of (keys_of es)) v.items ≡ at = sym (place_is (eq v) v.items says (keys_of es)) ∙ h.0 in
          record {
            shape = new.shape;
            stands = subst
                (λ keys. Stands keys at new.shape) (sym is)
                (subst (λ n. Stands (with_key (map items_of (keys_of es)) v.items) n new.shape) here new.stands);
            counts = h.1
                ∙ new.counts;
          }
      by (inr h) =
          let k = old at d h in
          record {
            shape = k.shape;
            stands = put_keeps (map items_of (keys_of es))
                (map items_of (keys_of (insert_entry eq es v c))) v.items is k.shape at k.stands;
            counts = k.counts;
          }

-- the counts of a new node, from those of its parts

pub leaf_known : (old : List (List ℕ)) (key : List ℕ) (form : Form) (holds : ℕ) (c : Counts) → key ≡ leaf_key form holds →
    c ≡ leaf_counts form holds → HasCounts (with_key old key) (place old key) c
leaf_known old key form holds c e is = record {
  shape = leaf form holds;
  stands =
      put_leaf old (with_key old key) key form holds (place old key) e refl refl;
  counts = is;
}

pub end_known : (old : List (List ℕ)) (key : List ℕ) (c : Counts) → key ≡ [] → c ≡ end_counts →
    HasCounts (with_key old key) (place old key) c
end_known old key c e is = record {
  shape = end;
  stands = put_end old (with_key old key) key (place old key) e refl refl;
  counts =
      is;
}

pub wrap_known : (old : List (List ℕ)) (key : List ℕ) (form : Form) (part : ℕ) (a c : Counts) → HasFewNodes old part →
    key ≡ wrap_key form part → ((x : Shape) → Stands old part x → a ≡ counts_of x) → c ≡ wrap_counts form a →
    HasCounts (with_key old key) (place old key) c
wrap_known old key form part a c h e of is = record {
  shape = wrap form h.shape;
  stands = put_wrap old (with_key old key) key form part (place old key) e refl refl h.shape h.stands;
  counts = is ∙ ap (wrap_counts form) (of h.shape h.stands);
}

pub fork_known : (old : List (List ℕ)) (key : List ℕ) (form : Form) (first second : ℕ) (a b c : Counts) →
    HaveFewNodes old first second → key ≡ fork_key form first second → ((x : Shape) → Stands old first x → a ≡ counts_of x) →
    ((x : Shape) → Stands old second x → b ≡ counts_of x) →
    c ≡ fork_counts form a b → HasCounts (with_key old key) (place old key) c
fork_known old key form first second a b c h e left right is = record {
  shape = fork form h.left h.right;
  stands = put_fork old (with_key old key) key form first second
      (place old key) e refl refl h.left h.right h.stands_left h.stands_right;
  counts = is ∙ λ i. fork_counts form (left h.left h.stands_left i) (right h.right h.stands_right i);
}

pub link_known : (old : List (List ℕ)) (key l : List ℕ) (first second : ℕ) (a b c : Counts) → HaveFewNodes old first second →
    key ≡ link_key l first second → ((x : Shape) → Stands old first x → a ≡ counts_of x) →
    ((x : Shape) → Stands old second x → b ≡ counts_of x) →
    c ≡ link_counts a b → HasCounts (with_key old key) (place old key) c
link_known old key l first second a b c h e left right is = record {
  shape = link l h.left h.right;
  stands = put_link old (with_key old key) key l first second
      (place old key) e refl refl h.left h.right h.stands_left h.stands_right;
  counts = is ∙ λ i. link_counts (left h.left h.stands_left i) (right h.right h.stands_right i);
}

-- parts of types with few nodes

pub few_body : (keys : List (List ℕ)) (at : ℕ) (s : Tree) → nodes s + 1 < 2 ^ 31 → Stands keys at (shape_of s) →
    HasFewNodes keys at
few_body keys at s few h = record { shape = shape_of s; stands = h; few = let e = nodes_of_tree s in omega (arith, e, few) }

pub few_choice : (keys : List (List ℕ)) (at : ℕ) (cs : Branches) → nodes_all cs + 1 < 2 ^ 31 → Stands keys at (shape_of_all cs) →
    HasFewNodes keys at
few_choice keys at cs few h = record {
  shape = shape_of_all cs;
  stands = h;
  few = let e = nodes_of_branches cs in
      omega (arith, e, few);
}

pub few_both : (keys : List (List ℕ)) (i j : ℕ) (s r : Tree) → nodes s + nodes r + 1 < 2 ^ 31 → Stands keys i (shape_of s) →
    Stands keys j (shape_of r) → HaveFewNodes keys i j
few_both keys i j s r few h k = record {
  left = shape_of s;
  right = shape_of r;
  stands_left = h;
  stands_right = k;
  few = let e = nodes_of_tree s in let f = nodes_of_tree r in omega (arith, e, f, few);
}

pub few_branch : (keys : List (List ℕ)) (i j : ℕ) (s : Tree) (cs : Branches) → nodes s + 1 + nodes_all cs + 1 < 2 ^ 31 →
    Stands keys i (shape_of s) → Stands keys j (shape_of_all cs) → HaveFewNodes keys i j
few_branch keys i j s cs few h k = record {
  left = shape_of s;
  right = shape_of_all cs;
  stands_left = h;
  stands_right = k;
  few = let e = nodes_of_tree s in let f = nodes_of_branches cs in omega (arith, e, f, few);
}
