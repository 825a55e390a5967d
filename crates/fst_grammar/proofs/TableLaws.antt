-- A list that has each part once.
use Rattle.std.proofs.Common.{◌≡◌, ◌∙◌, ◌<◌, refl, sym, ap, subst, arith, ℕ, zero, suc, List, [], ◌∷◌, ◌++◌, length, Bool, true, false, Some, ◌&&◌}
use Rattle.std.specs.Prelude.{if◌then◌else◌, nat_lt, nat_eq, slice_get}
use Rattle.std.proofs.lemmas.Bool.{eq-eqb, eqb-true, ltb-true, and_parts}
use Rattle.fst_types.specs.Tree.{Tree}
use Rattle.fst_parts.specs.Same.{same_tree}
use Rattle.fst_parts.specs.Once.{Part, stands_at, position, with_part, with_parts}
use Rattle.fst_parts.proofs.Laws.{same_tree_is}
use Rattle.fst_grammar.proofs.SeekLaws.{Every, every_both, found_in, IsSeated}

-- the list has this part of this closed type
abbrev pub Has : List Part → Tree → ℕ → Type 0
Has found w a = position found w a < length found

has_more : (found x : List Part) (w : Tree) (a : ℕ) → Has found w a → Has (found ++ x) w a
has_more [] x w a h = absurd (omega arith)
has_more (e ∷ found) x w a h = pick (has_more found x w a) (stands_at e w a) h
  where
    pick : (Has found w a → Has (found ++ x) w a) → (c : Bool) →
        (if c then 0 else suc (position found w a)) < suc (length found) →
        (if c then 0 else suc (position (found ++ x) w a)) < suc (length (found ++ x))
    pick next true lt = omega arith
    pick next false lt = let n = next (omega arith) in omega arith

has_last : (found : List Part) (e : Part) → Has (found ++ e ∷ []) e.place.whole e.place.at
has_last [] e =
    let is : stands_at e e.place.whole e.place.at ≡ true =
    λ i. eq-eqb e.place.at e.place.at refl i && (same_tree_is e.place.whole e.place.whole).1 refl i in
    subst (λ c. (if c then 0 else 1) < 1) (sym is) (let z : 0 < 1 = omega arith in z)
has_last (f ∷ found) e = pick (has_last found e) (stands_at f e.place.whole e.place.at)
  where
    pick : Has (found ++ e ∷ []) e.place.whole e.place.at → (c : Bool) →
        (if c then 0 else suc (position (found ++ e ∷ []) e.place.whole e.place.at)) < suc (length (found ++ e ∷ []))
    pick next true = omega arith
    pick next false = omega arith

has_with : (found : List Part) (e : Part) (w : Tree) (a : ℕ) → Has found w a → Has (with_part found e) w a
has_with found e w a h = pick (nat_lt (position found e.place.whole e.place.at) (length found))
  where
    pick : (c : Bool) → Has (if c then found else found ++ e ∷ []) w a
    pick true = h
    pick false = has_more found (e ∷ []) w a h

has_new : (found : List Part) (e : Part) → Has (with_part found e) e.place.whole e.place.at
has_new found e = pick (nat_lt (position found e.place.whole e.place.at) (length found)) refl
  where
    pick : (c : Bool) → nat_lt (position found e.place.whole e.place.at) (length found) ≡ c →
        Has (if c then found else found ++ e ∷ []) e.place.whole e.place.at
    pick true is = ltb-true (position found e.place.whole e.place.at) (length found) is
    pick false is = has_last found e

has_with_all : (found es : List Part) (w : Tree) (a : ℕ) → Has found w a → Has (with_parts found es) w a
has_with_all found [] w a h = h
has_with_all found (e ∷ es) w a h = has_with_all (with_part found e) es w a (has_with found e w a h)

-- the list has the part's place
abbrev pub Holds : List Part → Part → Type 0
Holds found e = Has found e.place.whole e.place.at

pub all_held : (found es : List Part) → Every (Holds (with_parts found es)) es
all_held found [] = tt
all_held found (e ∷ es) = (
  has_with_all (with_part found e) es e.place.whole e.place.at (has_new found e),
  all_held (with_part found e) es,
)

pub every_with : (P : Part → Type 0) (found es : List Part) → Every P found → Every P es → Every P (with_parts found es)
every_with P found [] h k = h
every_with P found (e ∷ es) h k = every_with P (with_part found e) es
    (pick (nat_lt (position found e.place.whole e.place.at) (length found))) k.1
  where
    pick : (c : Bool) → Every P (if c then found else found ++ e ∷ [])
    pick true = h
    pick false = every_both P found (e ∷ []) h (k.0, tt)

pub every_get : (P : Part → Type 0) (found : List Part) → Every P found → (k : ℕ) (e : Part) → slice_get found k ≡ Some e → P e
every_get P [] h k e g = absurd (cc g)
every_get P (f ∷ found) h zero e g = let same : f ≡ e = cc in subst P same h.0
every_get P (f ∷ found) h (suc k) e g = every_get P found h.1 k e g

-- one list after the other
pub with_append : (found a b : List Part) → with_parts found (a ++ b) ≡ with_parts (with_parts found a) b
with_append found [] b = refl
with_append found (e ∷ a) b = with_append (with_part found e) a b

-- the entry at the position of a place stands at that place
found_at : (found : List Part) (w : Tree) (a : ℕ) → Has found w a → (e : Part) × (slice_get found (position found w a) ≡ Some e) ×
    (e.place.whole ≡ w) × (e.place.at ≡ a)
found_at [] w a h = absurd (omega arith)
found_at (e ∷ found) w a h = pick (found_at found w a) (stands_at e w a) refl h
  where
    pick : (Has found w a → (f : Part) × (slice_get found (position found w a) ≡ Some f) × (f.place.whole ≡ w) × (f.place.at ≡ a))
        → (c : Bool) → stands_at e w a ≡ c →
        (if c then 0 else suc (position found w a)) < suc (length found) → (f : Part) ×
        (slice_get (e ∷ found) (if c then 0 else suc (position found w a)) ≡ Some f) × (f.place.whole ≡ w) × (f.place.at ≡ a)
    pick next true is lt =
        let h = and_parts (nat_eq e.place.at a) (same_tree e.place.whole w) is in
        (e, refl, (same_tree_is e.place.whole w).0 h.1, eqb-true e.place.at a h.0)
    pick next false is lt = next (omega arith)

part_same : (x y : Part) → Some x ≡ Some y → x ≡ y
part_same x y e = cc

-- where all entries are seated, the entry at the position of a place is what stands there
pub numbered : (found : List Part) → Every IsSeated found →
    (w : Tree) (a : ℕ) (x : Part) → Has found w a → found_in w a ≡ Some x → slice_get found (position found w a) ≡ Some x
numbered found seated w a x h s =
    let f = found_at found w a h in
    let here : found_in f.0.place.whole f.0.place.at ≡ found_in w a = λ i. found_in (f.2 i) (f.3 i) in
    f.1 ∙ ap Some (part_same f.0 x (sym (every_get IsSeated found seated (position found w a) f.0 f.1) ∙ here ∙ s))
