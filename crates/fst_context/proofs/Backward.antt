-- A vector's items, the last first.
use Rattle.std.proofs.Common.{◌≡◌, ◌∙◌, ℕ, zero, suc, ◌+◌, ◌-◌, ◌<◌, Bool, true, false, ◌&&◌, List, [], ◌∷◌, ◌++◌, length, map, take, drop, get_or, set, refl, sym, ap, append_assoc, arith, length-drop, subst}
use Rattle.std.specs.Prelude.{⊤, sum}
use Rattle.std.proofs.lemmas.List.{reverse-append, length-reverse, length-map, set_split, map-append, drop_more, take-append-drop, map-id, drop_all, length-take}
use Rattle.std.proofs.lemmas.List.Sums.{sum_by-cons, sum_by-set}
use mathlib.Core.List.{reverse}
use Rattle.fst_context.specs.Vars.{Vars, no_vars, under, single}
use Rattle.fst_context.specs.Scope.{Variable, is_once, at_or_not, linear_at, mark, fewer, joined}

-- a list around one place
pub around : {X : Type 0} (xs : List X) (i : ℕ) (d : X) → i < length xs → xs ≡ take i xs ++ get_or xs i d ∷ drop (suc i) xs
around xs i d h =
    let e : drop i xs ≡ get_or xs i d ∷ drop (i + 1) xs = drop_more xs i d h in
    let n : i + 1 ≡ suc i = omega arith in
    sym (take-append-drop i xs) ∙ ap (λ r. take i xs ++ r) (e ∙ ap (λ m. get_or xs i d ∷ drop m xs) n)

flip : {X Y : Type 0} (f : X → Y) (a b : List X) (x : X) →
    reverse (map f (a ++ x ∷ b)) ≡ reverse (map f b) ++ f x ∷ reverse (map f a)
flip f a b x =
    ap reverse (map-append f a (x ∷ b))
    ∙ reverse-append (map f a) (f x ∷ map f b)
    ∙ ap (λ r. r ++ reverse (map f a)) (reverse-append (f x ∷ []) (map f b))
    ∙ append_assoc (reverse (map f b)) (f x ∷ []) (reverse (map f a))

pub turned : {X Y : Type 0} (f : X → Y) (xs : List X) (i : ℕ) (d : X) → i < length xs →
    reverse (map f xs) ≡ reverse (map f (drop (suc i) xs)) ++ f (get_or xs i d) ∷ reverse (map f (take i xs))
turned f xs i d h = ap (λ r. reverse (map f r)) (around xs i d h) ∙ flip f (take i xs) (drop (suc i) xs) (get_or xs i d)

pub turned_set : {X Y : Type 0} (f : X → Y) (xs : List X) (i : ℕ) (x : X) → i < length xs →
    reverse (map f (set xs i x)) ≡ reverse (map f (drop (suc i) xs)) ++ f x ∷ reverse (map f (take i xs))
turned_set f xs i x h = ap (λ r. reverse (map f r)) (set_split xs i x h) ∙ flip f (take i xs) (drop (suc i) xs) x

pub backward : {X : Type 0} (xs : List X) (i : ℕ) (d : X) → i < length xs →
    reverse xs ≡ reverse (drop (suc i) xs) ++ get_or xs i d ∷ reverse (take i xs)
backward {X} xs i d h =
    sym (ap reverse (map-id xs)) ∙ turned (λ (x : X). x) xs i d h
    ∙ (λ j. reverse (map-id (drop (suc i) xs) j) ++ get_or xs i d ∷ reverse (map-id (take i xs) j))

pub backward_set : {X : Type 0} (xs : List X) (i : ℕ) (x : X) → i < length xs →
    reverse (set xs i x) ≡ reverse (drop (suc i) xs) ++ x ∷ reverse (take i xs)
backward_set {X} xs i x h =
    sym (ap reverse (map-id (set xs i x))) ∙ turned_set (λ (x : X). x) xs i x h
    ∙ (λ j. reverse (map-id (drop (suc i) xs) j) ++ x ∷ reverse (map-id (take i xs) j))

pub behind_length : {X : Type 0} (xs : List X) (i k : ℕ) → i + k + 1 ≡ length xs → length (reverse (drop (suc i) xs)) ≡ k
behind_length xs i k h = length-reverse (drop (suc i) xs) ∙ length-drop (suc i) xs ∙ omega arith

pub front_length : {X Y : Type 0} (f : X → Y) (xs : List X) (i k : ℕ) → i + k + 1 ≡ length xs →
    length (reverse (map f (drop (suc i) xs))) ≡ k
front_length f xs i k h =
    length-reverse (map f (drop (suc i) xs)) ∙ length-map (drop (suc i) xs) f ∙ length-drop (suc i) xs ∙ omega arith

pub linear_at-append : (p q : List Variable) (v : Variable) (k : ℕ) → length p ≡ k → linear_at (p ++ v ∷ q) k ≡ is_once v.uses
linear_at-append [] q v zero h = refl
linear_at-append [] q v (suc k) h = absurd (omega arith)
linear_at-append (x ∷ p) q v zero h = absurd (omega arith)
linear_at-append (x ∷ p) q v (suc k) h = linear_at-append p q v k (omega arith)

pub at_or_not-append : (p q : List Bool) (b : Bool) (k : ℕ) → length p ≡ k → at_or_not (p ++ b ∷ q) k ≡ b
at_or_not-append [] q b zero h = refl
at_or_not-append [] q b (suc k) h = absurd (omega arith)
at_or_not-append (x ∷ p) q b zero h = absurd (omega arith)
at_or_not-append (x ∷ p) q b (suc k) h = at_or_not-append p q b k (omega arith)

and_true : (b : Bool) → (b && true) ≡ b
and_true true = refl
and_true false = refl

and_false : (b : Bool) → (b && false) ≡ false
and_false true = refl
and_false false = refl

pub mark_none : (bs : List Bool) → mark no_vars bs ≡ bs
mark_none [] = refl
mark_none (b ∷ bs) = λ i. and_true b i ∷ mark_none bs i

no_under : (u : Vars) → u ≡ no_vars → (j : ℕ) → under false u j ≡ false
no_under u h zero = refl
no_under u h (suc j) = ap (λ w. w j) h

pub single_none : (k : ℕ) → single false k ≡ no_vars
single_none zero = λ i j. no_under no_vars refl j i
single_none (suc k) = λ i j. no_under (single false k) (single_none k) j i

pub mark-append : (p q : List Bool) (b : Bool) (k : ℕ) → length p ≡ k → mark (single true k) (p ++ b ∷ q) ≡ p ++ false ∷ q
mark-append [] q b zero h = λ i. and_false b i ∷ mark_none q i
mark-append [] q b (suc k) h = absurd (omega arith)
mark-append (x ∷ p) q b zero h = absurd (omega arith)
mark-append (x ∷ p) q b (suc k) h = λ i. and_true x i ∷ mark-append p q b k (omega arith) i

-- the last item is the first backward
pub last_first : {X : Type 0} (xs : List X) (n : ℕ) (d : X) → n + 1 ≡ length xs → reverse xs ≡ get_or xs n d ∷ reverse (take n xs)
last_first {X} xs n d h =
    let lt : n < length xs = omega arith in
    let rest : drop (suc n) xs ≡ [] = drop_all (suc n) xs (omega arith) in
    sym (ap reverse (map-id xs)) ∙ turned (λ (x : X). x) xs n d lt
    ∙ (λ i. reverse (map-id (rest i) i) ++ get_or xs n d ∷ reverse (map-id (take n xs) i))

pub set_last_first : {X : Type 0} (xs : List X) (n : ℕ) (x : X) → n + 1 ≡ length xs →
    reverse (set xs n x) ≡ x ∷ reverse (take n xs)
set_last_first {X} xs n x h =
    let lt : n < length xs = omega arith in
    let rest : drop (suc n) xs ≡ [] = drop_all (suc n) xs (omega arith) in
    sym (ap reverse (map-id (set xs n x))) ∙ turned_set (λ (x : X). x) xs n x lt
    ∙ (λ i. reverse (map-id (rest i) i) ++ x ∷ reverse (map-id (take n xs) i))

pub joined_last : (ns ms : List ℕ) (n d e : ℕ) → n + 2 ≡ length ns → ms ≡ take (n + 1) ns →
    reverse (set ms n (get_or ms n d + get_or ns (n + 1) e)) ≡ joined (reverse ns)
joined_last ns ms n d e h p =
    let long : n + 1 ≡ length ms = sym (ap length p ∙ length-take (n + 1) ns ∙ omega arith) in
    set_last_first ms n (get_or ms n d + get_or ns (n + 1) e) long
    ∙ sym (ap joined (last_first ns (n + 1) e (omega arith) ∙ ap (λ r. get_or ns (n + 1) e ∷ reverse r) (sym p) ∙ ap
    (λ r. get_or ns (n + 1) e ∷ r) (last_first ms n d long)))

-- counts that are all zero
abbrev pub Zeros : List ℕ → Type 0
Zeros [] = ⊤
Zeros (n ∷ ns) = (n ≡ 0) × Zeros ns

zeros_append : (a b : List ℕ) → Zeros a → Zeros b → Zeros (a ++ b)
zeros_append [] b p q = q
zeros_append (n ∷ a) b p q = (p.0, zeros_append a b p.1 q)

zeros_reverse : (ns : List ℕ) → Zeros ns → Zeros (reverse ns)
zeros_reverse [] p = tt
zeros_reverse (n ∷ ns) p = subst Zeros (sym (reverse-append (n ∷ []) ns))
    (zeros_append (reverse ns) (n ∷ []) (zeros_reverse ns p.1) (p.0, tt))

fewer_zeros : (ns : List ℕ) → Zeros ns → fewer ns ≡ ns
fewer_zeros [] p = refl
fewer_zeros (zero ∷ ns) p = ap (λ r. zero ∷ r) (fewer_zeros ns p.1)
fewer_zeros (suc n ∷ ns) p = absurd (cc (p.0))

fewer_first : (zs r : List ℕ) (n : ℕ) → Zeros zs → fewer (zs ++ suc n ∷ r) ≡ zs ++ n ∷ r
fewer_first [] r n p = refl
fewer_first (zero ∷ zs) r n p = ap (λ q. zero ∷ q) (fewer_first zs r n p.1)
fewer_first (suc m ∷ zs) r n p = absurd (cc (p.0))

-- where all counts behind a place are zero, the one at the place is lowered
pub fewer_at : (ns : List ℕ) (i d : ℕ) → i < length ns → Zeros (drop (suc i) ns) → 0 < get_or ns i d →
    reverse (set ns i (get_or ns i d - 1)) ≡ fewer (reverse ns)
fewer_at ns i d h z lt =
    let behind = reverse (drop (suc i) ns) in
    let before = reverse (take i ns) in
    let n : suc (get_or ns i d - 1) ≡ get_or ns i d = omega (arith, lt) in
    backward_set ns i (get_or ns i d - 1) h ∙ sym
    (fewer_first behind before (get_or ns i d - 1) (zeros_reverse (drop (suc i) ns) z))
    ∙ ap (λ m. fewer (behind ++ m ∷ before)) n ∙ ap fewer (sym (backward ns i d h))

-- and where all are zero, none is
pub fewer_none : (ns : List ℕ) → Zeros ns → reverse ns ≡ fewer (reverse ns)
fewer_none ns z = sym (fewer_zeros (reverse ns) (zeros_reverse ns z))

zeros_sum : (ns : List ℕ) → Zeros ns → sum ns ≡ 0
zeros_sum [] p = refl
zeros_sum (n ∷ ns) p = let c = sum_by-cons (λ m. m) n ns in let r = zeros_sum ns p.1 in let e = p.0 in c ∙ omega (arith, r, e)

pub sum_none : (ns : List ℕ) → Zeros ns → sum ns ≡ sum ns - 1
sum_none ns z = let e = zeros_sum ns z in omega (arith, e)

pub sum_at : (ns : List ℕ) (i d : ℕ) → i < length ns → 0 < get_or ns i d → sum (set ns i (get_or ns i d - 1)) ≡ sum ns - 1
sum_at ns i d h p = let e = sum_by-set (λ m. m) ns i (get_or ns i d - 1) d h in omega (arith, e, p)
