-- The places of keys, and the numbers that they give to trees.
use Rattle.std.proofs.Common.{◌≡◌, ◌∙◌, ◌+◌, ◌<◌, ◌≤◌, refl, sym, ap, subst, arith, ℕ, suc, List, [], ◌∷◌, ◌++◌, length, get_or, drop, Bool, true, false, cond, not}
use Rattle.std.specs.Prelude.{if◌then◌else◌, nat_lt}
use Rattle.std.specs.Str.{bytes_eq}
use Rattle.std.proofs.lemmas.Bool.{ltb-true, ltb-false}
use Rattle.std.proofs.lemmas.List.{get_or_append_left, length-append}
use Rattle.std.proofs.lemmas.Slice.Eq.{bytes_eq-Decides}
use Rattle.fst_parts.specs.Shapes.{Shape, end, leaf, wrap, fork, link}
use Rattle.fst_parts.specs.declared.forms.Form.{Form}
use Rattle.fst_parts.specs.declared.forms.Form.TheVariants as forms
use Rattle.fst_parts.specs.Keys.{form_number, leaf_key, wrap_key, fork_key, link_key, place, with_key, number_in, first, second, IsAt, Stands, KeepsNumbers}

pub place_within : (keys : List (List ℕ)) (key : List ℕ) → place keys key ≤ length keys
place_within [] key = omega arith
place_within (k ∷ keys) key = pick (place_within keys key) (bytes_eq key k)
  where
    pick : place keys key ≤ length keys → (c : Bool) → cond (not c) (1 + place keys key) 0 ≤ suc (length keys)
    pick h true = omega arith
    pick h false = omega arith

-- a key keeps its place
place_more : (keys more : List (List ℕ)) (key : List ℕ) → place keys key < length keys → place (keys ++ more) key ≡ place keys key
place_more [] more key h = absurd (omega arith)
place_more (k ∷ keys) more key h = pick (place_more keys more key) (bytes_eq key k) h
  where
    pick : (place keys key < length keys → place (keys ++ more) key ≡ place keys key) →
        (c : Bool) → cond (not c) (1 + place keys key) 0 < suc (length keys) →
        cond (not c) (1 + place (keys ++ more) key) 0 ≡ cond (not c) (1 + place keys key) 0
    pick next true lt = refl
    pick next false lt = ap (λ n. 1 + n) (next (omega arith))

-- a key that isn't there goes behind the others
place_last : (keys : List (List ℕ)) (key : List ℕ) → length keys ≤ place keys key → place (keys ++ key ∷ []) key ≡ length keys
place_last [] key h = ap (λ c. cond (not c) 1 0) ((bytes_eq-Decides key key).1 refl)
place_last (k ∷ keys) key h = pick (place_last keys key) (bytes_eq key k) h
  where
    pick : (length keys ≤ place keys key → place (keys ++ key ∷ []) key ≡ length keys) →
        (c : Bool) → suc (length keys) ≤ cond (not c) (1 + place keys key) 0 →
        cond (not c) (1 + place (keys ++ key ∷ []) key) 0 ≡ suc (length keys)
    pick next true le = absurd (omega arith)
    pick next false le = let n = next (omega arith) in omega arith

-- the key at its place
key_there : (keys : List (List ℕ)) (key : List ℕ) → place keys key < length keys → get_or keys (place keys key) [] ≡ key
key_there [] key h = absurd (omega arith)
key_there (k ∷ keys) key h = pick (key_there keys key) (bytes_eq key k) refl h
  where
    pick : (place keys key < length keys → get_or keys (place keys key) [] ≡ key) →
        (c : Bool) → bytes_eq key k ≡ c → cond (not c) (1 + place keys key) 0 < suc (length keys) →
        get_or (k ∷ keys) (cond (not c) (1 + place keys key) 0) [] ≡ key
    pick next true is lt = sym ((bytes_eq-Decides key k).0 is)
    pick next false is lt =
        let one : 1 + place keys key ≡ suc (place keys key) = omega arith in
        ap (λ n. get_or (k ∷ keys) n []) one ∙ next (omega arith)

at_key : (keys : List (List ℕ)) (at : ℕ) (key : List ℕ) → IsAt keys at key → get_or keys at [] ≡ key
at_key keys at key h = ap (λ n. get_or keys n []) (sym h.0) ∙ key_there keys key (subst (λ n. n < length keys) (sym h.0) h.1)

at_more : (keys more : List (List ℕ)) (at : ℕ) (key : List ℕ) → IsAt keys at key → IsAt (keys ++ more) at key
at_more keys more at key h = (
  place_more keys more key (subst (λ n. n < length keys) (sym h.0) h.1) ∙ h.0,
  let long = length-append keys more in let lt : at < length keys = h.1 in omega (arith, long),
)

number_more : (keys more : List (List ℕ)) (at k : ℕ) → at < length keys → number_in (keys ++ more) at k ≡ number_in keys at k
number_more keys more at k lt = ap (λ key. get_or key k 0) (get_or_append_left keys more [] at lt)

-- trees keep their numbers where keys are added
stands_more : (keys more : List (List ℕ)) → KeepsNumbers keys (keys ++ more)
stands_more keys more end at h = at_more keys more at [] h
stands_more keys more (leaf form holds) at h = at_more keys more at (leaf_key form holds) h
stands_more keys more (wrap form x) at h =
    let e = number_more keys more at 1 h.0.1 in
    subst (λ a. IsAt (keys ++ more) at (wrap_key form a) × Stands (keys ++ more) a x) (sym e)
    (at_more keys more at (wrap_key form (first keys at)) h.0, stands_more keys more x (first keys at) h.1)
stands_more keys more (fork form x y) at h =
    let e = number_more keys more at 1 h.0.1 in
    let f = number_more keys more at 2 h.0.1 in
    subst (λ a. IsAt (keys ++ more) at (fork_key form a (second (keys ++ more) at)) × Stands (keys ++ more) a x ×
    Stands (keys ++ more) (second (keys ++ more) at) y) (sym e)
    (subst (λ b. IsAt (keys ++ more) at (fork_key form (first keys at) b) × Stands (keys ++ more) (first keys at) x ×
    Stands (keys ++ more) b y) (sym f) (
      at_more keys more at (fork_key form (first keys at) (second keys at)) h.0,
      stands_more keys more x (first keys at) h.1,
      stands_more keys more y (second keys at) h.2,
    ))
stands_more keys more (link l x y) at h =
    let e = number_more keys more at 1 h.0.1 in
    let f = number_more keys more at 2 h.0.1 in
    subst (λ a. IsAt (keys ++ more) at (link_key l a (second (keys ++ more) at)) × Stands (keys ++ more) a x ×
    Stands (keys ++ more) (second (keys ++ more) at) y) (sym e)
    (subst (λ b. IsAt (keys ++ more) at (link_key l (first keys at) b) × Stands (keys ++ more) (first keys at) x ×
    Stands (keys ++ more) b y) (sym f) (
      at_more keys more at (link_key l (first keys at) (second keys at)) h.0,
      stands_more keys more x (first keys at) h.1,
      stands_more keys more y (second keys at) h.2,
    ))

keeps_with : (keys : List (List ℕ)) (key : List ℕ) → KeepsNumbers keys (with_key keys key)
keeps_with keys key x at h = pick (nat_lt (place keys key) (length keys))
  where
    pick : (c : Bool) → Stands (if c then keys else keys ++ key ∷ []) at x
    pick true = h
    pick false = stands_more keys (key ∷ []) x at h

-- a key that is put is there, and trees keep their numbers
pub put_keeps : (old new : List (List ℕ)) (key : List ℕ) → new ≡ with_key old key → KeepsNumbers old new
put_keeps old new key is x at h = subst (λ keys. Stands keys at x) (sym is) (keeps_with old key x at h)

at_with : (keys : List (List ℕ)) (key : List ℕ) → IsAt (with_key keys key) (place keys key) key
at_with keys key = pick (nat_lt (place keys key) (length keys)) refl
  where
    pick : (c : Bool) → nat_lt (place keys key) (length keys) ≡ c →
        IsAt (if c then keys else keys ++ key ∷ []) (place keys key) key
    pick true is = (refl, ltb-true (place keys key) (length keys) is)
    pick false is =
        let le : length keys ≤ place keys key = ltb-false (place keys key) (length keys) is in
        let same : place keys key ≡ length keys = let w = place_within keys key in omega arith in
        (place_last keys key le ∙ sym same, let long = length-append keys (key ∷ []) in omega (arith, long))

pub put_at : (old new : List (List ℕ)) (key : List ℕ) (at : ℕ) → new ≡ with_key old key → at ≡ place old key → IsAt new at key
put_at old new key at is here = subst (λ keys. IsAt keys at key) (sym is)
    (subst (λ n. IsAt (with_key old key) n key) (sym here) (at_with old key))

part_at : (keys : List (List ℕ)) (at k n : ℕ) (key : List ℕ) → IsAt keys at key → get_or key k 0 ≡ n → number_in keys at k ≡ n
part_at keys at k n key h e = ap (λ x. get_or x k 0) (at_key keys at key h) ∙ e

-- a node over a part with a number
wrap_put : (old new : List (List ℕ)) (form : Form) (part at : ℕ) → new ≡ with_key old (wrap_key form part) →
    at ≡ place old (wrap_key form part) → (x : Shape) → Stands old part x → Stands new at (wrap form x)
wrap_put old new form part at is here x h =
    let k = put_at old new (wrap_key form part) at is here in
    let e = part_at new at 1 part (wrap_key form part) k refl in
    subst (λ a. IsAt new at (wrap_key form a) × Stands new a x) (sym e) (k, put_keeps old new (wrap_key form part) is x part h)

-- a node over two parts with numbers
fork_put : (old new : List (List ℕ)) (form : Form) (left right at : ℕ) → new ≡ with_key old (fork_key form left right) →
    at ≡ place old (fork_key form left right) → (x y : Shape) → Stands old left x → Stands old right y →
    Stands new at (fork form x y)
fork_put old new form left right at is here x y h j =
    let key = fork_key form left right in
    let k = put_at old new key at is here in
    let e = part_at new at 1 left key k refl in
    let f = part_at new at 2 right key k refl in
    subst (λ a. IsAt new at (fork_key form a (second new at)) × Stands new a x × Stands new (second new at) y) (sym e)
    (subst (λ b. IsAt new at (fork_key form left b) × Stands new left x × Stands new b y) (sym f)
    (k, put_keeps old new key is x left h, put_keeps old new key is y right j))

-- a branch and those behind it, with numbers
link_put : (old new : List (List ℕ)) (l : List ℕ) (left right at : ℕ) → new ≡ with_key old (link_key l left right) →
    at ≡ place old (link_key l left right) → (x y : Shape) → Stands old left x → Stands old right y → Stands new at (link l x y)
link_put old new l left right at is here x y h j =
    let key = link_key l left right in
    let k = put_at old new key at is here in
    let e = part_at new at 1 left key k refl in
    let f = part_at new at 2 right key k refl in
    subst (λ a. IsAt new at (link_key l a (second new at)) × Stands new a x × Stands new (second new at) y) (sym e)
    (subst (λ b. IsAt new at (link_key l left b) × Stands new left x × Stands new b y) (sym f)
    (k, put_keeps old new key is x left h, put_keeps old new key is y right j))

-- the same of a key that was built
pub put_leaf : (old new : List (List ℕ)) (key : List ℕ) (form : Form) (holds at : ℕ) → key ≡ leaf_key form holds →
    new ≡ with_key old key → at ≡ place old key → Stands new at (leaf form holds)
put_leaf old new key form holds at e is here =
    put_at old new (leaf_key form holds) at (is ∙ ap (with_key old) e) (here ∙ ap (place old) e)

pub put_end : (old new : List (List ℕ)) (key : List ℕ) (at : ℕ) → key ≡ [] → new ≡ with_key old key → at ≡ place old key →
    Stands new at end
put_end old new key at e is here = put_at old new [] at (is ∙ ap (with_key old) e) (here ∙ ap (place old) e)

pub put_wrap : (old new : List (List ℕ)) (key : List ℕ) (form : Form) (part at : ℕ) → key ≡ wrap_key form part →
    new ≡ with_key old key → at ≡ place old key → (x : Shape) → Stands old part x → Stands new at (wrap form x)
put_wrap old new key form part at e is here = wrap_put old new form part at (is ∙ ap (with_key old) e) (here ∙ ap (place old) e)

pub put_fork : (old new : List (List ℕ)) (key : List ℕ) (form : Form) (left right at : ℕ) → key ≡ fork_key form left right →
    new ≡ with_key old key → at ≡ place old key →
    (x y : Shape) → Stands old left x → Stands old right y → Stands new at (fork form x y)
put_fork old new key form left right at e is here =
    fork_put old new form left right at (is ∙ ap (with_key old) e) (here ∙ ap (place old) e)

pub put_link : (old new : List (List ℕ)) (key l : List ℕ) (left right at : ℕ) → key ≡ link_key l left right →
    new ≡ with_key old key → at ≡ place old key →
    (x y : Shape) → Stands old left x → Stands old right y → Stands new at (link l x y)
put_link old new key l left right at e is here =
    link_put old new l left right at (is ∙ ap (with_key old) e) (here ∙ ap (place old) e)

-- a tree has one number
pub one_number : (keys : List (List ℕ)) (x : Shape) (i j : ℕ) → Stands keys i x → Stands keys j x → i ≡ j
one_number keys end i j h k = sym h.0 ∙ k.0
one_number keys (leaf form holds) i j h k = sym h.0 ∙ k.0
one_number keys (wrap form x) i j h k =
    sym h.0.0 ∙ ap (λ n. place keys (wrap_key form n)) (one_number keys x (first keys i) (first keys j) h.1 k.1) ∙ k.0.0
one_number keys (fork form x y) i j h k =
    let e = one_number keys x (first keys i) (first keys j) h.1 k.1 in
    let f = one_number keys y (second keys i) (second keys j) h.2 k.2 in
    sym h.0.0 ∙ (λ a. place keys (fork_key form (e a) (f a))) ∙ k.0.0
one_number keys (link l x y) i j h k =
    let e = one_number keys x (first keys i) (first keys j) h.1 k.1 in
    let f = one_number keys y (second keys i) (second keys j) h.2 k.2 in
    sym h.0.0 ∙ (λ a. place keys (link_key l (e a) (f a))) ∙ k.0.0

-- the number with which a node's key begins
mark : Shape → ℕ
mark end = 0
mark (leaf form holds) = 1
mark (wrap form x) = 2
mark (fork form x y) = 3
mark (link l x y) = 4

marked : (keys : List (List ℕ)) (at : ℕ) (x : Shape) → Stands keys at x → number_in keys at 0 ≡ mark x
unfolding mark
marked keys at end h = part_at keys at 0 0 [] h refl
marked keys at (leaf form holds) h = part_at keys at 0 1 (leaf_key form holds) h refl
marked keys at (wrap form x) h = part_at keys at 0 2 (wrap_key form (first keys at)) h.0 refl
marked keys at (fork form x y) h = part_at keys at 0 3 (fork_key form (first keys at) (second keys at)) h.0 refl
marked keys at (link l x y) h = part_at keys at 0 4 (link_key l (first keys at) (second keys at)) h.0 refl

same_key : (keys : List (List ℕ)) (at : ℕ) (a b : List ℕ) → IsAt keys at a → IsAt keys at b → a ≡ b
same_key keys at a b h k = sym (at_key keys at a h) ∙ at_key keys at b k

apart : (keys : List (List ℕ)) (at : ℕ) (x y : Shape) (m n : ℕ) → Stands keys at x → Stands keys at y → mark x ≡ m → mark y ≡ n →
    (m ≡ n → ⊥) → ⊥
apart keys at x y m n h k e f differ = differ (sym e ∙ sym (marked keys at x h) ∙ marked keys at y k ∙ f)

-- a form is told by its number
same_form : (f g : Form) → form_number f ≡ form_number g → f ≡ g
same_form forms.Send forms.Send e = refl
same_form forms.Receive forms.Receive e = refl
same_form forms.Close forms.Close e = refl
same_form forms.Wait forms.Wait e = refl
same_form forms.Select forms.Select e = refl
same_form forms.Offer forms.Offer e = refl
same_form forms.Seq forms.Seq e = refl
same_form forms.Rec forms.Rec e = refl
same_form forms.Back forms.Back e = refl
same_form forms.Var forms.Var e = refl
same_form forms.Plain forms.Plain e = refl
same_form forms.Many forms.Many e = refl
same_form forms.Once forms.Once e = refl
same_form forms.Pair forms.Pair e = refl
same_form forms.Named forms.Named e = refl
same_form f g e = absurd (omega arith)

-- a number is that of one tree
pub one_shape : (keys : List (List ℕ)) (x y : Shape) (at : ℕ) → Stands keys at x → Stands keys at y → x ≡ y
unfolding mark
one_shape keys end end at h k = refl
one_shape keys end (leaf f n) at h k = absurd (apart keys at end (leaf f n) 0 1 h k refl refl (omega arith))
one_shape keys end (wrap f z) at h k = absurd (apart keys at end (wrap f z) 0 2 h k refl refl (omega arith))
one_shape keys end (fork f z w) at h k = absurd (apart keys at end (fork f z w) 0 3 h k refl refl (omega arith))
one_shape keys end (link m z w) at h k = absurd (apart keys at end (link m z w) 0 4 h k refl refl (omega arith))
one_shape keys (leaf form holds) end at h k = absurd (apart keys at (leaf form holds) end 1 0 h k refl refl (omega arith))
one_shape keys (leaf form holds) (leaf f n) at h k =
    let e = same_key keys at (leaf_key form holds) (leaf_key f n) h k in
    let g = same_form form f (ap (λ key. get_or key 1 0) e) in
    λ i. leaf (g i) (get_or (e i) 2 0)
one_shape keys (leaf form holds) (wrap f z) at h k =
    absurd (apart keys at (leaf form holds) (wrap f z) 1 2 h k refl refl (omega arith))
one_shape keys (leaf form holds) (fork f z w) at h k =
    absurd (apart keys at (leaf form holds) (fork f z w) 1 3 h k refl refl (omega arith))
one_shape keys (leaf form holds) (link m z w) at h k =
    absurd (apart keys at (leaf form holds) (link m z w) 1 4 h k refl refl (omega arith))
one_shape keys (wrap form x) end at h k = absurd (apart keys at (wrap form x) end 2 0 h k refl refl (omega arith))
one_shape keys (wrap form x) (leaf f n) at h k = absurd (apart keys at (wrap form x) (leaf f n) 2 1 h k refl refl (omega arith))
one_shape keys (wrap form x) (wrap f z) at h k =
    let e = same_key keys at (wrap_key form (first keys at)) (wrap_key f (first keys at)) h.0 k.0 in
    let p = one_shape keys x z (first keys at) h.1 k.1 in
    let g = same_form form f (ap (λ key. get_or key 2 0) e) in
    λ i. wrap (g i) (p i)
one_shape keys (wrap form x) (fork f z w) at h k =
    absurd (apart keys at (wrap form x) (fork f z w) 2 3 h k refl refl (omega arith))
one_shape keys (wrap form x) (link m z w) at h k =
    absurd (apart keys at (wrap form x) (link m z w) 2 4 h k refl refl (omega arith))
one_shape keys (fork form x y) end at h k = absurd (apart keys at (fork form x y) end 3 0 h k refl refl (omega arith))
one_shape keys (fork form x y) (leaf f n) at h k =
    absurd (apart keys at (fork form x y) (leaf f n) 3 1 h k refl refl (omega arith))
one_shape keys (fork form x y) (wrap f z) at h k =
    absurd (apart keys at (fork form x y) (wrap f z) 3 2 h k refl refl (omega arith))
one_shape keys (fork form x y) (fork f z w) at h k =
    let e = same_key keys at (fork_key form (first keys at) (second keys at))
    (fork_key f (first keys at) (second keys at)) h.0 k.0 in
    let p = one_shape keys x z (first keys at) h.1 k.1 in
    let q = one_shape keys y w (second keys at) h.2 k.2 in
    let g = same_form form f (ap (λ key. get_or key 3 0) e) in
    λ i. fork (g i) (p i) (q i)
one_shape keys (fork form x y) (link m z w) at h k =
    absurd (apart keys at (fork form x y) (link m z w) 3 4 h k refl refl (omega arith))
one_shape keys (link l x y) end at h k = absurd (apart keys at (link l x y) end 4 0 h k refl refl (omega arith))
one_shape keys (link l x y) (leaf f n) at h k = absurd (apart keys at (link l x y) (leaf f n) 4 1 h k refl refl (omega arith))
one_shape keys (link l x y) (wrap f z) at h k = absurd (apart keys at (link l x y) (wrap f z) 4 2 h k refl refl (omega arith))
one_shape keys (link l x y) (fork f z w) at h k = absurd (apart keys at (link l x y) (fork f z w) 4 3 h k refl refl (omega arith))
one_shape keys (link l x y) (link m z w) at h k =
    let e = same_key keys at (link_key l (first keys at) (second keys at))
    (link_key m (first keys at) (second keys at)) h.0 k.0 in
    let p = one_shape keys x z (first keys at) h.1 k.1 in
    let q = one_shape keys y w (second keys at) h.2 k.2 in
    λ i. link (drop 3 (e i)) (p i) (q i)
