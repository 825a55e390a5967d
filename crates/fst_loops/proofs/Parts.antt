-- The parts of a path, what is set in a list, and how much is left to be done.
use Rattle.std.proofs.Common.{◌≡◌, ℕ, zero, suc, ◌+◌, ◌-◌, ◌<◌, ◌≤◌, ◌⊎◌, inl, inr, List, [], ◌∷◌, ◌++◌, length, get_or, set, take, Bool, true, false, refl, sym, ◌∙◌, ap, subst, arith, get_or-set_same, get_or-set_other}
use Rattle.std.specs.Prelude.{All, Contains, ◌↔◌, map}
use Rattle.std.specs.List.{IsAnyAnswer}
use Rattle.std.specs.declared.vec.Vec.{Vec}
use Rattle.std.specs.declared.alloc.Global.{Global}
use Rattle.std.specs.Bool.{Decides}
use Rattle.std.proofs.Common.{eqb}
use Rattle.std.proofs.lemmas.Bool.Decides.{Decides-eqb}
use Rattle.std.proofs.lemmas.Bool.{cases_lt, cases_eq}
use Rattle.std.proofs.lemmas.List.{length-set, get_or_past, get_or_default, length_push, get_or_append_left, get_or_push, take_all, take_more, take_at, get_or-map, length-take-le}
use Rattle.std.proofs.lemmas.List.Elements.{Contains-append_left, Contains-push, Contains-push_cases, Contains-get_or, All-contains, All-get_or, Decides-contains, contains_decides}
use Rattle.fst_base.proofs.Lists.{contains_head, contains_tail, from_contains, contains_none}
use Rattle.fst_loops.specs.Graphs.{items_of, edges, IsGraph, is_looped}
use Rattle.fst_loops.specs.Searches.{mark_at, set_all, AreInOrder, CoverFrom, IsLast, KeepsMet, unseen_work}
use Rattle.fst_loops.specs.declared.search.Mark.{Mark}
use Rattle.fst_loops.specs.declared.search.Mark.TheVariants.{Unseen, Open, Done}
use Rattle.fst_loops.specs.declared.search.Part.{Part}

-- the last part is the last in both orders
pub last_most : (ps : List Part) (b c : Part) → AreInOrder (ps ++ b ∷ []) → Contains (ps ++ b ∷ []) c → (c.first ≤ b.first) ×
    (c.before ≤ b.before)
last_most [] b c r m = elim (from_contains [] c b m) [
  | inl e ↦ subst (λ (d : Part). (d.first ≤ b.first) × (d.before ≤ b.before)) e (omega arith, omega arith)
  | inr n ↦ absurd (contains_none c n)
]
last_most (a ∷ ps) b c r m = elim (from_contains (ps ++ b ∷ []) c a m) [
  | inl e ↦ subst (λ (d : Part). (d.first ≤ b.first) × (d.before ≤ b.before)) e (r.0 b (Contains-push ps b))
  | inr n ↦ last_most ps b c r.1 n
]

pub in_order_front : (ps : List Part) (b : Part) → AreInOrder (ps ++ b ∷ []) → AreInOrder ps
in_order_front [] b r = tt
in_order_front (a ∷ ps) b r = ((λ c m. r.0 c (Contains-append_left ps (b ∷ []) c m)), in_order_front ps b r.1)

pub in_order_push : (ps : List Part) (b : Part) → AreInOrder ps →
    ((c : Part) → Contains ps c → (c.first ≤ b.first) × (c.before ≤ b.before)) → AreInOrder (ps ++ b ∷ [])
in_order_push [] b r up = ((λ c m. absurd (contains_none c m)), tt)
in_order_push (a ∷ ps) b r up = (
  (λ c m. elim (Contains-push_cases ps b c m) [
    | inl n ↦ r.0 c n
    | inr e ↦ subst (λ (d : Part). (a.first ≤ d.first) × (a.before ≤ d.before)) e (up a (contains_head ps a a refl))
  ]),
  in_order_push ps b r.1 (λ c m. up c (contains_tail ps c a m)),
)

-- where the last part is taken off the path, the others still cover it
pub cover_front : (ps : List Part) (b : Part) (n : ℕ) → CoverFrom (ps ++ b ∷ []) n → CoverFrom ps b.first
cover_front [] b n h = h
cover_front (a ∷ ps) b n h = h

-- where it joins the part before it, they do too
pub cover_joined : (ps : List Part) (b : Part) (n : ℕ) → CoverFrom (ps ++ b ∷ []) n → 0 < b.first → CoverFrom ps n
cover_joined [] b n h lt = absurd (omega arith)
cover_joined (a ∷ ps) b n h lt = h

pub cover_push : (ps : List Part) (b : Part) (n : ℕ) → CoverFrom ps b.first → CoverFrom (ps ++ b ∷ []) n
cover_push [] b n h = h
cover_push (a ∷ ps) b n h = h

-- all parts begin up to a place, or one begins behind it
pub up_to_or_behind : (ps : List Part) (n : ℕ) → ((c : Part) → Contains ps c → c.first ≤ n) ⊎
    ((c : Part) × Contains ps c × (n < c.first))
up_to_or_behind [] n = inl (λ c m. absurd (contains_none c m))
up_to_or_behind (a ∷ ps) n = elim (cases_lt n a.first) [
  | inl lt ↦ inr (a, contains_head ps a a refl, lt)
  | inr le ↦ elim (up_to_or_behind ps n) [
    | inl all ↦ inl (λ c m. elim (from_contains ps c a m) [
      | inl e ↦ subst (λ (d : Part). d.first ≤ n) e le
      | inr k ↦ all c k
    ])
    | inr p ↦ inr (p.0, contains_tail ps p.0 a p.1, p.2)
  ]
]

-- the place of an item, at the default 0
pub place_of : (xs : List ℕ) (x : ℕ) → Contains xs x → (k : ℕ) × (k < length xs) × (get_or xs k 0 ≡ x)
place_of xs x m = (m.0, m.1, get_or_default xs m.0 0 x m.1 ∙ m.2)

-- the item at a place
pub at_place : (xs : List ℕ) (k x : ℕ) → k < length xs → get_or xs k 0 ≡ x → Contains xs x
at_place xs k x lt e = subst (λ (z : ℕ). Contains xs z) e (Contains-get_or xs k 0 lt)

-- a node with a mark is one of the marked
pub marked_within : (marks : List Mark) (x : ℕ) → (mark_at marks x ≡ Unseen → ⊥) → x < length marks
marked_within marks x met = elim (cases_lt x (length marks))
    [ inl lt ↦ lt | inr le ↦ absurd (met (get_or_past marks x Unseen le)) ]

-- a node that is noted is one of the nodes
pub looped_within : (looped : List Bool) (x : ℕ) → is_looped looped x ≡ true → x < length looped
looped_within looped x e = elim (cases_lt x (length looped))
    [ inl lt ↦ lt | inr le ↦ absurd (let f = get_or_past looped x false le in cc) ]

-- an edge comes from a node
pub edge_from : (g : List (List ℕ)) (x y : ℕ) → Contains (edges g x) y → x < length g
edge_from g x y m = elim (cases_lt x (length g)) [
  | inl lt ↦ lt
  | inr le ↦ absurd (contains_none y (subst (λ (row : List ℕ). Contains row y) (get_or_past g x [] le) m))
]

-- an edge of a graph leads to a node
pub edge_within : (g : List (List ℕ)) (x y : ℕ) → IsGraph g → Contains (edges g x) y → y < length g
edge_within g x y is m =
    All-contains (λ (z : ℕ). z < length g) (edges g x) y
    (All-get_or (λ (row : List ℕ). All (λ (z : ℕ). z < length g) row) g x [] (edge_from g x y m) is) m

pub length-set_all : {A : Type 0} (xs : List A) (places : List ℕ) (v : A) → length (set_all xs places v) ≡ length xs
length-set_all xs [] v = refl
length-set_all xs (n ∷ places) v = length-set_all (set xs n v) places v ∙ length-set xs n v

-- what was set stays set
pub set_all-kept : {A : Type 0} (xs : List A) (places : List ℕ) (v d : A) (x : ℕ) → x < length xs → get_or xs x d ≡ v →
    get_or (set_all xs places v) x d ≡ v
set_all-kept xs [] v d x lt e = e
set_all-kept xs (n ∷ places) v d x lt e =
    set_all-kept (set xs n v) places v d x (let l = length-set xs n v in omega arith) (elim (cases_eq x n) [
      | inl p ↦ subst (λ (k : ℕ). get_or (set xs n v) k d ≡ v) (sym p) (get_or-set_same xs n v d (let q = p in omega arith))
      | inr ne ↦ get_or-set_other xs n x v d ne ∙ e
    ])

pub set_all-same : {A : Type 0} (xs : List A) (places : List ℕ) (v d : A) (x : ℕ) → x < length xs → Contains places x →
    get_or (set_all xs places v) x d ≡ v
set_all-same xs [] v d x lt m = absurd (contains_none x m)
set_all-same xs (n ∷ places) v d x lt m =
    let lt' : x < length (set xs n v) = (let l = length-set xs n v in omega arith) in
    elim (from_contains places x n m) [
      | inl e ↦ set_all-kept (set xs n v) places v d x lt'
          (subst (λ (k : ℕ). get_or (set xs n v) k d ≡ v) e (get_or-set_same xs n v d (let q = e in omega arith)))
      | inr k ↦ set_all-same (set xs n v) places v d x lt' k
    ]

pub set_all-other : {A : Type 0} (xs : List A) (places : List ℕ) (v d : A) (x : ℕ) →
    (Contains places x → ⊥) → get_or (set_all xs places v) x d ≡ get_or xs x d
set_all-other xs [] v d x none = refl
set_all-other xs (n ∷ places) v d x none =
    set_all-other (set xs n v) places v d x (λ m. none (contains_tail places x n m)) ∙ get_or-set_other xs n x v d
    (λ e. none (contains_head places x n (sym e)))

-- a node is among some, or not
pub among : (xs : List ℕ) (x : ℕ) → Contains xs x ⊎ (Contains xs x → ⊥)
among [] x = inr (λ m. contains_none x m)
among (n ∷ xs) x = elim (cases_eq n x) [
  | inl e ↦ inl (contains_head xs x n e)
  | inr ne ↦ elim (among xs x) [
    | inl m ↦ inl (contains_tail xs x n m)
    | inr absent ↦ inr (λ m. elim (from_contains xs x n m) [ inl e ↦ ne e | inr k ↦ absent k ])
  ]
]

-- a node that is met takes its share off what is left to be done
pub unseen_work-set : (g : List (List ℕ)) (marks : List Mark) (x p : ℕ) → x < length g → x < length marks →
    mark_at marks x ≡ Unseen →
    unseen_work g (set marks x (Open p)) + (length (edges g x) + 2) ≡ unseen_work g marks
unseen_work-set [] marks x p lt in' e = absurd (omega arith)
unseen_work-set (row ∷ g) [] x p lt in' e = absurd (omega arith)
unseen_work-set (row ∷ g) (Unseen ∷ marks) zero p lt in' e = omega arith
unseen_work-set (row ∷ g) (Open q ∷ marks) zero p lt in' e = cc
unseen_work-set (row ∷ g) (Done ∷ marks) zero p lt in' e = cc
unseen_work-set (row ∷ g) (Unseen ∷ marks) (suc x) p lt in' e = let h =
    unseen_work-set g marks x p (omega arith) (omega arith) e in omega arith
unseen_work-set (row ∷ g) (Open q ∷ marks) (suc x) p lt in' e = unseen_work-set g marks x p (omega arith) (omega arith) e
unseen_work-set (row ∷ g) (Done ∷ marks) (suc x) p lt in' e = unseen_work-set g marks x p (omega arith) (omega arith) e

-- where no node is forgotten, no work is added
pub unseen_work-met : (g : List (List ℕ)) (old new : List Mark) → length old ≡ length new → KeepsMet old new →
    unseen_work g new ≤ unseen_work g old
unseen_work-met [] old new len met = omega arith
unseen_work-met (row ∷ g) [] [] len met = omega arith
unseen_work-met (row ∷ g) [] (n ∷ new) len met = absurd (omega arith)
unseen_work-met (row ∷ g) (o ∷ old) [] len met = absurd (omega arith)
unseen_work-met (row ∷ g) (o ∷ old) (n ∷ new) len met =
    let rest = unseen_work-met g old new (omega arith) (λ x e. met (suc x) e) in
    (elim n as (λ (m : Mark). (m ≡ Unseen → o ≡ Unseen) → unseen_work (row ∷ g) (m ∷ new) ≤ unseen_work (row ∷ g) (o ∷ old)) [
      | Unseen ↦ λ first. let e = first refl in rw e (omega arith)
      | Open p ↦ λ first. more row g o old (unseen_work g new) rest
      | Done ↦ λ first. more row g o old (unseen_work g new) rest
    ]) (met 0)
  where
    more : (row : List ℕ) (g : List (List ℕ)) (o : Mark) (old : List Mark) (n : ℕ) → n ≤ unseen_work g old →
        n ≤ unseen_work (row ∷ g) (o ∷ old)
    more row g Unseen old n le = omega arith
    more row g (Open p) old n le = le
    more row g Done old n le = le

-- the row of a graph at a node
pub row_is : (graph : List (Vec ℕ Global)) (x : ℕ) (row : Vec ℕ Global) → x < length graph → row ≡ get_or graph x row →
    edges (map items_of graph) x ≡ row.items
row_is graph x row lt is = get_or-map items_of graph x row [] lt ∙ ap items_of (sym is)

-- one more node is looked at for an edge to itself
pub own_more : (g : List (List ℕ)) (looped : List Bool) (x : ℕ) (r : Bool) (row : List ℕ) → length looped ≡ x → edges g x ≡ row →
    IsAnyAnswer (λ (y : ℕ) (b : Bool). eqb y x ≡ b) row r →
    ((k : ℕ) → k < x → (is_looped looped k ≡ true) ↔ Contains (edges g k) k) → (k : ℕ) → k < x + 1 →
    (is_looped (looped ++ r ∷ []) k ≡ true) ↔ Contains (edges g k) k
own_more g looped x r row len at answer before k lt = elim (cases_lt k x) [
  | inl l ↦ subst (λ (b : Bool). (b ≡ true) ↔ Contains (edges g k) k)
      (sym (get_or_append_left looped (r ∷ []) false k (omega arith))) (before k l)
  | inr ge ↦
      let same : x ≡ k = omega arith in
      let D : Decides r (Contains row x) = Decides-contains row x r (contains_decides eqb Decides-eqb row x r answer) in
      subst (λ (n : ℕ). (is_looped (looped ++ r ∷ []) n ≡ true) ↔ Contains (edges g n) n) same (
      subst (λ (b : Bool). (b ≡ true) ↔ Contains (edges g x) x) (sym (get_or_push looped r false x len)) (
      subst (λ (w : List ℕ). (r ≡ true) ↔ Contains w x) (sym at) D))
]

-- a list whose last item is taken off
pub last_off : {A : Type 0} (xs : List A) (d : A) → 0 < length xs →
    xs ≡ take (length xs - 1) xs ++ get_or xs (length xs - 1) d ∷ []
last_off xs d some =
    let lt : length xs - 1 < length xs = omega arith in
    let all : length xs - 1 + 1 ≡ length xs = omega arith in
    sym (take_all (length xs - 1 + 1) xs (omega arith)) ∙ take_more xs (length xs - 1) d lt

-- what is left in front of a last item
pub front_left : {A : Type 0} (xs ys : List A) (b : A) → xs ≡ ys ++ b ∷ [] → take (length xs - 1) xs ≡ ys
front_left {A} xs ys b e =
    let n : length xs ≡ length ys + 1 = ap length e ∙ length_push ys b in
    ap (λ (zs : List A). take (length xs - 1) zs) e ∙ take_at ys (b ∷ []) (length xs - 1) (omega arith)

-- such a list is shorter
pub one_less : {A : Type 0} (xs ys : List A) → 0 < length xs → ys ≡ take (length xs - 1) xs → length ys < length xs
one_less xs ys some e = let n = ap length e in let m = length-take-le (length xs - 1) xs (omega arith) in omega arith

-- a list with a last part isn't empty
pub last_some : (parts : List Part) (b : Part) → IsLast parts b → 0 < length parts
last_some parts b last = let n = ap length last.1 in let m = length_push last.0 b in omega arith
