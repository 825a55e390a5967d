-- What the tests of types say.
use Rattle.std.proofs.Common.{◌≡◌, ◌∙◌, ℕ, suc, ◌<◌, Bool, true, false, ◌&&◌, List, [], ◌∷◌, Option, Some, None, slice_get, refl, sym, ap, subst, nat_lt, arith, ◌++◌, append_assoc, length}
use Rattle.std.specs.Prelude.{if◌then◌else◌, ◌↔◌, ◌≢◌, Result, Ok, Err, option_map, IsTrue}
use Rattle.std.specs.declared.cmp.Ordering.{Ordering}
use Rattle.std.specs.declared.cmp.Ordering.TheVariants.{Less, Equal, Greater}
use Rattle.std.specs.Ordering.{nat_cmp}
use Rattle.std.specs.Cmp.Lexicographic.{slice_cmp}
use Rattle.std.proofs.lemmas.Option.{same_Some}
use Rattle.fst_base.proofs.Codes.{code_itself, code_same}
use Rattle.fst_base.specs.Codes.{same_code}
use Rattle.fst_types.specs.Tree.{Tree, skip, send, receive, close, wait, select, offer, seq, rec, back, var, plain, arrow, pair, named, Branches, none, branch}
use Rattle.fst_types.specs.ModelCode.{code_of, tree_code}
use Rattle.fst_types.specs.Order.{AreRising, AreSorted, EachChoiceBelow, IsOrdered, IsSorted}
use Rattle.fst_types.specs.Scoped.{IsScoped, AllScoped}
use Rattle.fst_types.specs.declared.kind.Kind.{Kind}
use Rattle.fst_types.specs.declared.kind.Prekind.{Prekind}
use Rattle.fst_types.specs.declared.kind.Prekind.TheVariants.{Session, Top}
use Rattle.fst_types.specs.declared.kind.Use.{Use}
use Rattle.fst_types.specs.declared.kind.Use.TheVariants.{Many, Once}
use Rattle.fst_kinds.specs.Kinds.{session}
use Rattle.fst_kinds.specs.Walk.{walk}
use Rattle.fst_kinds.specs.WellFormed.{IsWellFormed, IsSession, IsInstance, IsInstantiation}
use Rattle.fst_kinds.specs.declared.fault.KindFault.{KindFault}
use Rattle.fst_kinds.proofs.Laws.{walk_kinds}
use Rattle.fst_derivations.specs.Parts.{IsFormed, HasUse, AreAt}
use Rattle.fst_fits.specs.Tests.{same_tree, rises, rising, is_ready, are_ready, found_kind, kind_in, has_some, use_in, is_many, is_session, is_of_sessions, is_type, with_first, types_at, is_below, instantiates}

-- ---- tests in general

pub and_left : (a b : Bool) → (a && b) ≡ true → a ≡ true
and_left true b h = refl
and_left false b h = absurd (cc h)

pub and_right : (a b : Bool) → (a && b) ≡ true → b ≡ true
and_right true b h = h
and_right false b h = absurd (cc h)

pub and_both : (a b : Bool) → a ≡ true → b ≡ true → (a && b) ≡ true
and_both true b h e = e
and_both false b h e = absurd (cc h)

-- ---- the same type

pub tree_same : (s t : Tree) → same_tree s t ≡ true → s ≡ t
unfolding same_tree
tree_same s t h = tree_code.inj s t (code_same (code_of s) (code_of t) h)

pub tree_itself : (s t : Tree) → s ≡ t → same_tree s t ≡ true
unfolding same_tree
tree_itself s t e = subst (λ z. same_code (code_of s) (code_of z) ≡ true) e (code_itself (code_of s))

pub same_answer : (b : Bool) (s t : Tree) → (IsTrue b ↔ (s ≡ t)) → b ≡ same_tree s t
same_answer true s t h = sym (tree_itself s t (h.0 refl))
same_answer false s t h = pick (same_tree s t) refl
  where
    pick : (c : Bool) → same_tree s t ≡ c → false ≡ c
    pick true e = h.1 (tree_same s t e)
    pick false e = refl

-- ---- well-formed types

less_not : (o : Ordering) → rises o ≡ true → (o ≡ Less) × (o ≢ Greater)
less_not Less h = (refl, λ e. cc e)
less_not Equal h = absurd (cc h)
less_not Greater h = absurd (cc h)

are_rising : (bs : Branches) → rising bs ≡ true → AreRising bs × AreSorted bs
are_rising none h = absurd (cc h)
are_rising (branch l t none) h = (tt, tt)
are_rising (branch l t (branch m u bs)) h =
    let a = less_not (slice_cmp nat_cmp l m) (and_left (rises (slice_cmp nat_cmp l m)) (rising (branch m u bs)) h) in
    let r = are_rising (branch m u bs) (and_right (rises (slice_cmp nat_cmp l m)) (rising (branch m u bs)) h) in
    ((a.0, r.0), (a.1, r.1))

rising_are : (bs : Branches) → AreRising bs → rising bs ≡ true
rising_are none h = absurd h
rising_are (branch l t none) h = refl
rising_are (branch l t (branch m u bs)) h = and_both (rises (slice_cmp nat_cmp l m)) (rising (branch m u bs)) (ap rises h.0)
    (rising_are (branch m u bs) h.1)

below_of : (k n : ℕ) → nat_lt k n ≡ true → k < n
below_of k n h = grind arith

of_below : (k n : ℕ) → k < n → nat_lt k n ≡ true
of_below k n h = grind arith

mutual
  ready : (n : ℕ) (t : Tree) → is_ready n t ≡ true → IsScoped n t × IsSorted t
  ready n skip h = (tt, tt)
  ready n (send b) h = (tt, tt)
  ready n (receive b) h = (tt, tt)
  ready n close h = (tt, tt)
  ready n wait h = (tt, tt)
  ready n (select bs) h =
      let r = readies n bs (and_right (rising bs) (are_ready n bs) h) in
      (r.0, ((are_rising bs (and_left (rising bs) (are_ready n bs) h)).1, r.1))
  ready n (offer bs) h =
      let r = readies n bs (and_right (rising bs) (are_ready n bs) h) in
      (r.0, ((are_rising bs (and_left (rising bs) (are_ready n bs) h)).1, r.1))
  ready n (seq s t) h =
      let a = ready n s (and_left (is_ready n s) (is_ready n t) h) in
      let b = ready n t (and_right (is_ready n s) (is_ready n t) h) in
      ((a.0, b.0), (a.1, b.1))
  ready n (rec s) h = ready (suc n) s h
  ready n (back k) h = (below_of k n h, tt)
  ready n (var k) h = (tt, tt)
  ready n (plain b) h = (tt, tt)
  ready n (arrow u s t) h =
      let a = ready n s (and_left (is_ready n s) (is_ready n t) h) in
      let b = ready n t (and_right (is_ready n s) (is_ready n t) h) in
      ((a.0, b.0), (a.1, b.1))
  ready n (pair s t) h =
      let a = ready n s (and_left (is_ready n s) (is_ready n t) h) in
      let b = ready n t (and_right (is_ready n s) (is_ready n t) h) in
      ((a.0, b.0), (a.1, b.1))
  ready n (named k) h = (tt, tt)

  readies : (n : ℕ) (bs : Branches) → are_ready n bs ≡ true → AllScoped n bs × EachChoiceBelow AreSorted bs
  readies n none h = (tt, tt)
  readies n (branch l s bs) h =
      let a = ready n s (and_left (is_ready n s) (are_ready n bs) h) in
      let b = readies n bs (and_right (is_ready n s) (are_ready n bs) h) in
      ((a.0, b.0), (a.1, b.1))

mutual
  of_ready : (n : ℕ) (t : Tree) → IsScoped n t → IsOrdered t → is_ready n t ≡ true
  of_ready n skip s o = refl
  of_ready n (send b) s o = refl
  of_ready n (receive b) s o = refl
  of_ready n close s o = refl
  of_ready n wait s o = refl
  of_ready n (select bs) s o = and_both (rising bs) (are_ready n bs) (rising_are bs o.0) (of_readies n bs s o.1)
  of_ready n (offer bs) s o = and_both (rising bs) (are_ready n bs) (rising_are bs o.0) (of_readies n bs s o.1)
  of_ready n (seq a b) s o = and_both (is_ready n a) (is_ready n b) (of_ready n a s.0 o.0) (of_ready n b s.1 o.1)
  of_ready n (rec a) s o = of_ready (suc n) a s o
  of_ready n (back k) s o = of_below k n s
  of_ready n (var k) s o = refl
  of_ready n (plain b) s o = refl
  of_ready n (arrow u a b) s o = and_both (is_ready n a) (is_ready n b) (of_ready n a s.0 o.0) (of_ready n b s.1 o.1)
  of_ready n (pair a b) s o = and_both (is_ready n a) (is_ready n b) (of_ready n a s.0 o.0) (of_ready n b s.1 o.1)
  of_ready n (named k) s o = refl

  of_readies : (n : ℕ) (bs : Branches) → AllScoped n bs → EachChoiceBelow AreRising bs → are_ready n bs ≡ true
  of_readies n none s o = refl
  of_readies n (branch l t bs) s o = and_both (is_ready n t) (are_ready n bs) (of_ready n t s.0 o.0) (of_readies n bs s.1 o.1)

-- a type that is ready has its scopes and its order
pub is_ready_scoped : (t : Tree) → is_ready 0 t ≡ true → IsScoped 0 t
is_ready_scoped t h = (ready 0 t h).0

pub is_ready_sorted : (t : Tree) → is_ready 0 t ≡ true → IsSorted t
is_ready_sorted t h = (ready 0 t h).1

found : (r : Result Kind KindFault) (k : Kind) → found_kind r ≡ Some k → r ≡ Ok k
found (Ok j) k h = ap Ok (same_Some j k h)
found (Err f) k h = absurd (cc h)

tested : (b : Bool) (o : Option Kind) (k : Kind) → (if b then o else None) ≡ Some k → (b ≡ true) × (o ≡ Some k)
tested true o k h = (refl, h)
tested false o k h = absurd (cc h)

-- the kind that is found is that of a well-formed type
pub kind_formed : (vars : List Kind) (t : Tree) (k : Kind) → kind_in vars t ≡ Some k → IsWellFormed vars t k
unfolding kind_in
kind_formed vars t k h =
    let a = tested (is_ready 0 t) (found_kind (walk vars t)) k h in
    let r = ready 0 t a.0 in
    (walk_kinds vars t k r.0 r.1).0 (found (walk vars t) k a.1)

-- and that of each well-formed type is found
pub formed_kind : (vars : List Kind) (t : Tree) (k : Kind) → IsWellFormed vars t k → kind_in vars t ≡ Some k
unfolding kind_in
formed_kind vars t k w =
    let a = of_ready 0 t w.scoped w.ordered in
    let r = ready 0 t a in
    ap (λ b. if b then found_kind (walk vars t) else None) a ∙ ap found_kind ((walk_kinds vars t k r.0 r.1).1 w)

some_formed : (vars : List Kind) (t : Tree) (o : Option Kind) → kind_in vars t ≡ o → has_some o ≡ true → IsFormed vars t
some_formed vars t None e h = absurd (cc h)
some_formed vars t (Some k) e h = (k, kind_formed vars t k e)

-- a type has a kind where it is well formed
pub is_formed : (vars : List Kind) (t : Tree) → has_some (kind_in vars t) ≡ true → IsFormed vars t
is_formed vars t h = some_formed vars t (kind_in vars t) refl h

pub of_formed : (vars : List Kind) (t : Tree) → IsFormed vars t → has_some (kind_in vars t) ≡ true
of_formed vars t f = ap has_some (formed_kind vars t f.0 f.1)

used : (vars : List Kind) (t : Tree) (n : Use) (o : Option Kind) → kind_in vars t ≡ o → option_map (λ k. k.uses) o ≡ Some n →
    HasUse vars t n
used vars t n None e h = absurd (cc h)
used vars t n (Some k) e h = record { kind = k; formed = kind_formed vars t k e; is = same_Some k.uses n h }

-- the use that is found is that of the type
pub has_use : (vars : List Kind) (t : Tree) (n : Use) → use_in vars t ≡ Some n → HasUse vars t n
has_use vars t n h = used vars t n (kind_in vars t) refl h

pub of_use : (vars : List Kind) (t : Tree) (n : Use) → HasUse vars t n → use_in vars t ≡ Some n
of_use vars t n w = ap (λ o. option_map (λ k. k.uses) o) (formed_kind vars t w.kind w.formed) ∙ ap Some w.is

many_some : (o : Option Use) → is_many o ≡ true → o ≡ Some Many
many_some None h = absurd (cc h)
many_some (Some Many) h = refl
many_some (Some Once) h = absurd (cc h)

pub has_many : (vars : List Kind) (t : Tree) → is_many (use_in vars t) ≡ true → HasUse vars t Many
has_many vars t h = has_use vars t Many (many_some (use_in vars t) h)

pub of_many : (vars : List Kind) (t : Tree) → HasUse vars t Many → is_many (use_in vars t) ≡ true
of_many vars t w = ap is_many (of_use vars t Many w)

session_prekind : (p : Prekind) → is_of_sessions p ≡ true → p ≡ Session
session_prekind Session h = refl
session_prekind Top h = absurd (cc h)

some_session : (t : Tree) (o : Option Kind) → kind_in [] t ≡ o → is_session o ≡ true → IsSession [] t
some_session t None e h = absurd (cc h)
some_session t (Some k) e h = (
  k.uses,
  subst (λ z. IsWellFormed [] t z) (λ i. record { prekind = session_prekind k.prekind h i; uses = k.uses })
      (kind_formed [] t k e),
)

pub has_session : (t : Tree) → is_session (kind_in [] t) ≡ true → IsSession [] t
has_session t h = some_session t (kind_in [] t) refl h

pub of_session : (t : Tree) → IsSession [] t → is_session (kind_in [] t) ≡ true
of_session t w = ap is_session (formed_kind [] t (session w.0) w.1)

-- ---- a type that may be there

pub type_is : (o : Option Tree) (t : Tree) → is_type o t ≡ true → o ≡ Some t
type_is None t h = absurd (cc h)
type_is (Some s) t h = ap Some (tree_same s t h)

pub of_type : (o : Option Tree) (t : Tree) → o ≡ Some t → is_type o t ≡ true
of_type None t h = absurd (cc h)
of_type (Some s) t h = tree_itself s t (same_Some s t h)

-- ---- types by their numbers

first_some : (o : Option Tree) (p : Option (List Tree)) (ts : List Tree) → with_first o p ≡ Some ts → (x : Tree) ×
    (xs : List Tree) × (o ≡ Some x) × (p ≡ Some xs) × ((x ∷ xs) ≡ ts)
first_some None p ts h = absurd (cc h)
first_some (Some x) None ts h = absurd (cc h)
first_some (Some x) (Some xs) ts h = (x, xs, refl, refl, same_Some (x ∷ xs) ts h)

pub types_are : (types : List Tree) (ks : List ℕ) (ts : List Tree) → types_at types ks ≡ Some ts → AreAt types ks ts
types_are types [] [] h = tt
types_are types [] (t ∷ ts) h = absurd (cc h)
types_are types (k ∷ ks) ts h =
    let f = first_some (slice_get types k) (types_at types ks) ts h in
    subst (AreAt types (k ∷ ks)) f.4 (f.2, types_are types ks f.1 f.3)

pub are_types : (types : List Tree) (ks : List ℕ) (ts : List Tree) → AreAt types ks ts → types_at types ks ≡ Some ts
are_types types [] [] h = refl
are_types types [] (t ∷ ts) h = absurd h
are_types types (k ∷ ks) [] h = absurd h
are_types types (k ∷ ks) (t ∷ ts) h = ap (λ o. with_first o (types_at types ks)) h.0
    ∙ ap (with_first (Some t)) (are_types types ks ts h.1)

-- ---- instantiations

below : (outer : List Kind) (t : Tree) (k : Kind) (o : Option Kind) → kind_in outer t ≡ o → is_below o k ≡ true →
    IsInstance outer k t
below outer t k None e h = absurd (cc h)
below outer t k (Some i) e h = record { kind = i; well_formed = kind_formed outer t i e; below = h }

pub instantiation : (outer ks : List Kind) (ts : List Tree) → instantiates outer ks ts ≡ true → IsInstantiation outer ks ts
instantiation outer [] [] h = tt
instantiation outer [] (t ∷ ts) h = absurd (cc h)
instantiation outer (k ∷ ks) [] h = absurd (cc h)
instantiation outer (k ∷ ks) (t ∷ ts) h = (
  below outer t k (kind_in outer t) refl (and_left (is_below (kind_in outer t) k) (instantiates outer ks ts) h),
  instantiation outer ks ts (and_right (is_below (kind_in outer t) k) (instantiates outer ks ts) h),
)

pub of_instantiation : (outer ks : List Kind) (ts : List Tree) → IsInstantiation outer ks ts → instantiates outer ks ts ≡ true
of_instantiation outer [] [] h = refl
of_instantiation outer [] (t ∷ ts) h = absurd h
of_instantiation outer (k ∷ ks) [] h = absurd h
of_instantiation outer (k ∷ ks) (t ∷ ts) h =
    and_both (is_below (kind_in outer t) k) (instantiates outer ks ts)
    (ap (λ o. is_below o k) (formed_kind outer t h.0.kind h.0.well_formed) ∙ h.0.below) (of_instantiation outer ks ts h.1)

other_length : (outer ks : List Kind) (ts : List Tree) → instantiates outer ks ts ≡ true → length ks ≡ length ts
other_length outer [] [] h = refl
other_length outer [] (t ∷ ts) h = absurd (cc h)
other_length outer (k ∷ ks) [] h = absurd (cc h)
other_length outer (k ∷ ks) (t ∷ ts) h = ap suc
    (other_length outer ks ts (and_right (is_below (kind_in outer t) k) (instantiates outer ks ts) h))

-- types are none for as many kinds unless there are as many
pub wrong_length : (outer ks : List Kind) (ts : List Tree) → (length ks ≡ length ts → ⊥) → false ≡ instantiates outer ks ts
wrong_length outer ks ts f = pick (instantiates outer ks ts) refl
  where
    pick : (c : Bool) → instantiates outer ks ts ≡ c → false ≡ c
    pick true e = absurd (f (other_length outer ks ts e))
    pick false e = refl

-- ---- types that were found, and those that come after them

abbrev pub found_before : List Tree → Option (List Tree) → Option (List Tree)
found_before xs None = None
found_before xs (Some ys) = Some (xs ++ ys)

one_more : (xs : List Tree) (t : Tree) (o : Option (List Tree)) →
    found_before xs (with_first (Some t) o) ≡ found_before (xs ++ t ∷ []) o
one_more xs t None = refl
one_more xs t (Some ys) = ap Some (sym (append_assoc xs (t ∷ []) ys))
