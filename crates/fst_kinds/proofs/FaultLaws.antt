-- The walk answers the first fault, which a type has at most once, and a well-formed type not at all.
use Rattle.std.proofs.Common.{◌≡◌, ◌∙◌, ◌↔◌, ◌⊎◌, inl, inr, refl, sym, ap, subst, ℕ, List, [], ◌∷◌, ◌++◌, Bool, true, false, Option, Some, None, Result, Ok, Err}
use Rattle.std.specs.Prelude.{◌≢◌, if◌then◌else◌, ok_or, slice_get, IfErr, ⊤}
use Rattle.fst_types.specs.Tree.{Tree, skip, send, receive, close, wait, select, offer, seq, rec, back, var, plain, arrow, pair, named, Branches, none, branch}
use Rattle.fst_types.specs.Order.{EachChoice, EachChoiceBelow}
use Rattle.fst_types.specs.declared.kind.Kind.{Kind}
use Rattle.fst_types.specs.declared.kind.Use.{Use}
use Rattle.fst_types.specs.declared.kind.Use.TheVariants.{Once}
use Rattle.fst_kinds.specs.declared.fault.KindFault.{KindFault}
use Rattle.fst_kinds.specs.declared.fault.KindFault.TheVariants.{NotContractive, WrongKind, UnboundType, DoubleLabel, Memory}
use Rattle.fst_kinds.specs.Kinds.{session, top, subkind, join, HasKind, HasSessionKind, AllSessions}
use Rattle.fst_kinds.specs.Contractive.{reaches, IsContractive, AllContractive}
use Rattle.fst_kinds.specs.Walk.{double_label, needs_session, and_next, unless_double, choice_kind, walk, walk_all, Answers}
use Rattle.fst_kinds.specs.Faults.{Need, single, node, needs, needs_all, bodies, session_parts, IsFirstWrong, Fails, double, wrong, unguarded, unbound, Holds, IsFirstFailure, IsFirstFault}
use Rattle.fst_kinds.proofs.KindLaws.{below_session, session_below, one_kind}
use Rattle.fst_kinds.proofs.WalkLaws.{IsSingle, walked, next_ok, err_is, well_formed, refused}

-- a kind that isn't below 1S is none of a session type
not_session : (vars : List Kind) (s : Tree) (k : Kind) (u : Use) → HasKind vars s k → subkind k (session Once) ≡ false →
    HasKind vars s (session u) → ⊥
not_session vars s k u h e g =
    let is = one_kind vars s k (session u) h g in
    absurd (cc (sym e ∙ ap (λ i. subkind i (session Once)) is ∙ session_below u))

-- all these types are below 1S
abbrev AreSessions : List Kind → List Tree → Type 0
AreSessions vars [] = ⊤
AreSessions vars (s ∷ ss) = HasSessionKind vars s × AreSessions vars ss

none_wrong : (vars : List Kind) (ss : List Tree) (k : Kind) → AreSessions vars ss → IsFirstWrong vars ss k → ⊥
none_wrong vars [] k a w = absurd w
none_wrong vars (s ∷ ss) k a (inl w) = not_session vars s k a.0.0 w.0 w.1 a.0.1
none_wrong vars (s ∷ ss) k a (inr w) = none_wrong vars ss k a.1 w.1

one_wrong : (vars : List Kind) (ss : List Tree) (j k : Kind) → IsFirstWrong vars ss j → IsFirstWrong vars ss k → j ≡ k
one_wrong vars [] j k a b = absurd a
one_wrong vars (s ∷ ss) j k (inl a) (inl b) = one_kind vars s j k a.0 b.0
one_wrong vars (s ∷ ss) j k (inl a) (inr b) = absurd (not_session vars s j b.0.0 a.0 a.1 b.0.1)
one_wrong vars (s ∷ ss) j k (inr a) (inl b) = absurd (not_session vars s k a.0.0 b.0 b.1 a.0.1)
one_wrong vars (s ∷ ss) j k (inr a) (inr b) = one_wrong vars ss j k a.1 b.1

bodies_sessions : (vars : List Kind) (bs : Branches) → AllSessions vars bs → AreSessions vars (bodies bs)
bodies_sessions vars none h = tt
bodies_sessions vars (branch l s bs) h = (h.0, bodies_sessions vars bs h.1)

-- the parts of a node with a kind that have to be below 1S are
parts_sessions : (vars : List Kind) (t : Tree) (k : Kind) → HasKind vars t k → AreSessions vars (session_parts t)
parts_sessions vars skip k h = tt
parts_sessions vars (send b) k h = tt
parts_sessions vars (receive b) k h = tt
parts_sessions vars close k h = tt
parts_sessions vars wait k h = tt
parts_sessions vars (select bs) k h = bodies_sessions vars bs h.0
parts_sessions vars (offer bs) k h = bodies_sessions vars bs h.0
parts_sessions vars (seq s r) k h = ((h.0, h.2), ((h.1, h.3), tt))
parts_sessions vars (rec s) k h = (
  (k.uses, subst (λ i. HasKind vars s i) (λ i. record { prekind = h.1 i; uses = k.uses }) h.0),
  tt,
)
parts_sessions vars (back n) k h = tt
parts_sessions vars (var n) k h = tt
parts_sessions vars (plain b) k h = tt
parts_sessions vars (arrow u s r) k h = tt
parts_sessions vars (pair s r) k h = tt
parts_sessions vars (named n) k h = tt

-- a node with a kind that is contractive is as it is asked to be
node_holds : {vars : List Kind} {t : Tree} {f : KindFault} → Fails vars (node t) f →
    (k : Kind) → HasKind vars t k → IsContractive t → ⊥
node_holds {vars} (wrong {t} {k = j} w) k h c = none_wrong vars (session_parts t) j (parts_sessions vars t k h) w
node_holds (unguarded g r) k h c = absurd (cc (sym r ∙ c.1))
node_holds (unbound e) k h c = absurd (cc (sym e ∙ h))

single_holds : {vars : List Kind} {bs : Branches} {f : KindFault} → Fails vars (single bs) f → IsSingle bs → ⊥
single_holds (double e) h = absurd (cc (sym e ∙ h))

-- what is asked fails in one way
fails_once : {vars : List Kind} {n : Need} {f g : KindFault} → Fails vars n f → Fails vars n g → f ≡ g
fails_once (double {l} e) d = of_double d e
  where
    of_double : {vars : List Kind} {bs : Branches} {g : KindFault} {l : List ℕ} → Fails vars (single bs) g →
        double_label bs ≡ Some l → DoubleLabel l ≡ g
    of_double (double {l = m} d) e = let is : Some _ ≡ Some m = sym e ∙ d in ap DoubleLabel (cc)
fails_once {vars} (wrong {t} {k} w) d = of_wrong d w
  where
    of_wrong : {vars : List Kind} {t : Tree} {g : KindFault} {k : Kind} → Fails vars (node t) g →
        IsFirstWrong vars (session_parts t) k → WrongKind k (session Once) ≡ g
    of_wrong {vars} {k} (wrong {t} {k = j} v) w = ap (λ i. WrongKind i (session Once)) (one_wrong vars (session_parts t) k j w v)
    of_wrong {vars} {k} (unguarded {s} h r) w = absurd (none_wrong vars (s ∷ []) k (h, tt) w)
    of_wrong (unbound e) w = absurd w
fails_once (unguarded {s} h r) d = of_unguarded d h
  where
    of_unguarded : {vars : List Kind} {s : Tree} {g : KindFault} → Fails vars (node (rec s)) g → HasSessionKind vars s →
        NotContractive ≡ g
    of_unguarded {vars} {s} (wrong {k} w) h = absurd (none_wrong vars (s ∷ []) k (h, tt) w)
    of_unguarded (unguarded g r) h = refl
fails_once (unbound e) d = of_unbound d
  where
    of_unbound : {vars : List Kind} {n : ℕ} {g : KindFault} → Fails vars (node (var n)) g → UnboundType n ≡ g
    of_unbound (wrong w) = absurd w
    of_unbound (unbound e) = refl

-- all that is asked holds
abbrev AllHold : List Kind → List Need → Type 0
AllHold vars [] = ⊤
AllHold vars (n ∷ ns) = Holds vars n × AllHold vars ns

hold_together : (vars : List Kind) (ns ms : List Need) → AllHold vars ns → AllHold vars ms → AllHold vars (ns ++ ms)
hold_together vars [] ms a b = b
hold_together vars (n ∷ ns) ms a b = (a.0, hold_together vars ns ms a.1 b)

first_in_front : (vars : List Kind) (ns ms : List Need) (f : KindFault) → IsFirstFailure vars ns f →
    IsFirstFailure vars (ns ++ ms) f
first_in_front vars [] ms f h = absurd h
first_in_front vars (n ∷ ns) ms f (inl h) = inl h
first_in_front vars (n ∷ ns) ms f (inr h) = inr (h.0, first_in_front vars ns ms f h.1)

first_behind : (vars : List Kind) (ns ms : List Need) (f : KindFault) → AllHold vars ns → IsFirstFailure vars ms f →
    IsFirstFailure vars (ns ++ ms) f
first_behind vars [] ms f a h = h
first_behind vars (n ∷ ns) ms f a h = inr (a.0, first_behind vars ns ms f a.1 h)

-- where all holds, nothing fails
no_failure : (vars : List Kind) (ns : List Need) (f : KindFault) → AllHold vars ns → IsFirstFailure vars ns f → ⊥
no_failure vars [] f a h = absurd h
no_failure vars (n ∷ ns) f a (inl h) = a.0 f h
no_failure vars (n ∷ ns) f a (inr h) = no_failure vars ns f a.1 h.1

-- there is one first failure
one_failure : (vars : List Kind) (ns : List Need) (f g : KindFault) → IsFirstFailure vars ns f → IsFirstFailure vars ns g → f ≡ g
one_failure vars [] f g a b = absurd a
one_failure vars (n ∷ ns) f g (inl a) (inl b) = fails_once a b
one_failure vars (n ∷ ns) f g (inl a) (inr b) = absurd (b.0 f a)
one_failure vars (n ∷ ns) f g (inr a) (inl b) = absurd (a.0 g b)
one_failure vars (n ∷ ns) f g (inr a) (inr b) = one_failure vars ns f g a.1 b.1

mutual
  -- of a type with a kind that is contractive, no label twice, all that is asked holds
  kinded_holds : (vars : List Kind) (t : Tree) (k : Kind) → HasKind vars t k → IsContractive t → EachChoice IsSingle t →
      AllHold vars (needs t)
  kinded_holds vars skip k h c o = (λ f x. node_holds x k h c, tt)
  kinded_holds vars (send b) k h c o = (λ f x. node_holds x k h c, tt)
  kinded_holds vars (receive b) k h c o = (λ f x. node_holds x k h c, tt)
  kinded_holds vars close k h c o = (λ f x. node_holds x k h c, tt)
  kinded_holds vars wait k h c o = (λ f x. node_holds x k h c, tt)
  kinded_holds vars (select bs) k h c o = (
    λ f x. single_holds x o.0,
    hold_together vars (needs_all bs) (node (select bs) ∷ []) (all_kinded_hold vars bs h.0 c o.1)
        (λ f x. node_holds x k h c, tt),
  )
  kinded_holds vars (offer bs) k h c o = (
    λ f x. single_holds x o.0,
    hold_together vars (needs_all bs) (node (offer bs) ∷ []) (all_kinded_hold vars bs h.0 c o.1)
        (λ f x. node_holds x k h c, tt),
  )
  kinded_holds vars (seq s r) k h c o =
      hold_together vars (needs s) (needs r ++ node (seq s r) ∷ []) (kinded_holds vars s (session h.0) h.2 c.0 o.0)
      (hold_together vars (needs r) (node (seq s r) ∷ []) (kinded_holds vars r (session h.1) h.3 c.1 o.1)
      (λ f x. node_holds x k h c, tt))
  kinded_holds vars (rec s) k h c o = hold_together vars (needs s) (node (rec s) ∷ []) (kinded_holds vars s k h.0 c.0 o)
      (λ f x. node_holds x k h c, tt)
  kinded_holds vars (back n) k h c o = (λ f x. node_holds x k h c, tt)
  kinded_holds vars (var n) k h c o = (λ f x. node_holds x k h c, tt)
  kinded_holds vars (plain b) k h c o = (λ f x. node_holds x k h c, tt)
  kinded_holds vars (arrow u s r) k h c o =
      hold_together vars (needs s) (needs r ++ node (arrow u s r) ∷ []) (kinded_holds vars s h.0.0 h.0.1 c.0 o.0)
      (hold_together vars (needs r) (node (arrow u s r) ∷ []) (kinded_holds vars r h.1.0 h.1.1 c.1 o.1)
      (λ f x. node_holds x k h c, tt))
  kinded_holds vars (pair s r) k h c o =
      hold_together vars (needs s) (needs r ++ node (pair s r) ∷ []) (kinded_holds vars s h.0 h.2 c.0 o.0)
      (hold_together vars (needs r) (node (pair s r) ∷ []) (kinded_holds vars r h.1 h.3 c.1 o.1) (λ f x. node_holds x k h c, tt))
  kinded_holds vars (named n) k h c o = (λ f x. node_holds x k h c, tt)

  all_kinded_hold : (vars : List Kind) (bs : Branches) → AllSessions vars bs → AllContractive bs → EachChoiceBelow IsSingle bs →
      AllHold vars (needs_all bs)
  all_kinded_hold vars none h c o = tt
  all_kinded_hold vars (branch l s bs) h c o = hold_together vars (needs s) (needs_all bs)
      (kinded_holds vars s (session h.0.0) h.0.1 c.0 o.0) (all_kinded_hold vars bs h.1 c.1 o.1)

-- of a type with an answer all that is asked holds
walk_holds : (vars : List Kind) (t : Tree) (k : Kind) → walk vars t ≡ Ok k → AllHold vars (needs t)
walk_holds vars t k e = let w = walked vars t k e in kinded_holds vars t k w.kinded w.contractive w.single

-- what comes to a fault had it, or went on to it
next_err : {T U : Type 0} (found : Result T KindFault) (next : T → Result U KindFault) (f : KindFault) →
    and_next found next ≡ Err f → (found ≡ Err f) ⊎ ((x : T) × (found ≡ Ok x) × (next x ≡ Err f))
next_err (Ok x) next f e = inr (x, refl, e)
next_err (Err g) next f e = inl (ap Err (err_is g f e))

tested_err : (test : Bool) (next : Result Kind KindFault) (g f : KindFault) → (if test then next else Err g) ≡ Err f →
    ((test ≡ false) × (g ≡ f)) ⊎ ((test ≡ true) × (next ≡ Err f))
tested_err true next g f e = inr (refl, e)
tested_err false next g f e = inl (refl, err_is g f e)

-- a fault past the need of a session type is that need's or comes later
session_err : (i : Kind) (next : Result Kind KindFault) (f : KindFault) → needs_session i next ≡ Err f →
    ((subkind i (session Once) ≡ false) × (WrongKind i (session Once) ≡ f)) ⊎ ((i ≡ session i.uses) × (next ≡ Err f))
session_err i next f e = pick (tested_err (subkind i (session Once)) next (WrongKind i (session Once)) f e)
  where
    pick : ((subkind i (session Once) ≡ false) × (WrongKind i (session Once) ≡ f)) ⊎
        ((subkind i (session Once) ≡ true) × (next ≡ Err f)) →
        ((subkind i (session Once) ≡ false) × (WrongKind i (session Once) ≡ f)) ⊎ ((i ≡ session i.uses) × (next ≡ Err f))
    pick (inl p) = inl p
    pick (inr p) = inr (below_session i p.0, p.1)

-- a kind below 1S that was found is one of a session type
found_session : (vars : List Kind) (s : Tree) (i : Kind) → HasKind vars s i → i ≡ session i.uses → HasSessionKind vars s
found_session vars s i h e = (i.uses, subst (λ k. HasKind vars s k) e h)

seq_fails : (vars : List Kind) (s r : Tree) (i j k : Kind) (f : KindFault) → HasKind vars s i → HasKind vars r j →
    needs_session i (needs_session j (Ok k)) ≡ Err f → Fails vars (node (seq s r)) f
seq_fails vars s r i j k f h g e = at_first (session_err i (needs_session j (Ok k)) f e)
  where
    at_second : i ≡ session i.uses → ((subkind j (session Once) ≡ false) × (WrongKind j (session Once) ≡ f)) ⊎
        ((j ≡ session j.uses) × (Path (Result Kind KindFault) (Ok k) (Err f))) → Fails vars (node (seq s r)) f
    at_second is (inl p) = subst (Fails vars (node (seq s r))) p.1 (wrong (inr (found_session vars s i h is, inl (g, p.0))))
    at_second is (inr p) = absurd (cc p.1)

    at_first : ((subkind i (session Once) ≡ false) × (WrongKind i (session Once) ≡ f)) ⊎
        ((i ≡ session i.uses) × (needs_session j (Ok k) ≡ Err f)) → Fails vars (node (seq s r)) f
    at_first (inl p) = subst (Fails vars (node (seq s r))) p.1 (wrong (inl (h, p.0)))
    at_first (inr p) = at_second p.0 (session_err j (Ok k) f p.1)

rec_fails : (vars : List Kind) (s : Tree) (i : Kind) (f : KindFault) → HasKind vars s i →
    needs_session i (if reaches s 0 then Err NotContractive else Ok i) ≡ Err f → Fails vars (node (rec s)) f
rec_fails vars s i f h e = at_body (session_err i (if reaches s 0 then Err NotContractive else Ok i) f e)
  where
    own : (b : Bool) → reaches s 0 ≡ b → (if b then Err NotContractive else Ok i) ≡ Err f → (reaches s 0 ≡ true) ×
        (NotContractive ≡ f)
    own true is e = (is, err_is NotContractive f e)
    own false is e = absurd (cc e)

    at_body : ((subkind i (session Once) ≡ false) × (WrongKind i (session Once) ≡ f)) ⊎
        ((i ≡ session i.uses) × ((if reaches s 0 then Err NotContractive else Ok i) ≡ Err f)) → Fails vars (node (rec s)) f
    at_body (inl p) = subst (Fails vars (node (rec s))) p.1 (wrong (inl (h, p.0)))
    at_body (inr p) = let o = own (reaches s 0) refl p.1 in
        subst (Fails vars (node (rec s))) o.1 (unguarded (found_session vars s i h p.0) o.0)

var_fails : (vars : List Kind) (n : ℕ) (f : KindFault) → ok_or (slice_get vars n) (UnboundType n) ≡ Err f →
    Fails vars (node (var n)) f
var_fails vars n f e = pick (slice_get vars n) refl e
  where
    pick : (o : Option Kind) → slice_get vars n ≡ o → ok_or o (UnboundType n) ≡ Err f → Fails vars (node (var n)) f
    pick None is e = subst (Fails vars (node (var n))) (err_is (UnboundType n) f e) (unbound is)
    pick (Some k) is e = absurd (cc e)

-- the first fault of a node with two parts
of_two : (vars : List Kind) (s r : Tree) (next : Kind → Kind → Result Kind KindFault) (n : Need) (f : KindFault) →
    (walk vars s ≡ Err f → IsFirstFault vars s f) → (walk vars r ≡ Err f → IsFirstFault vars r f) →
    ((i j : Kind) → HasKind vars s i → HasKind vars r j → next i j ≡ Err f → Fails vars n f) →
    and_next (walk vars s) (λ i. and_next (walk vars r) (λ j. next i j)) ≡ Err f →
    IsFirstFailure vars (needs s ++ (needs r ++ n ∷ [])) f
of_two vars s r next n f first second own e = at_first (next_err (walk vars s) (λ i. and_next (walk vars r) (λ j. next i j)) f e)
  where
    at_second : (i : Kind) → walk vars s ≡ Ok i → (walk vars r ≡ Err f) ⊎
        ((j : Kind) × (walk vars r ≡ Ok j) × (next i j ≡ Err f)) → IsFirstFailure vars (needs r ++ n ∷ []) f
    at_second i is (inl e) = first_in_front vars (needs r) (n ∷ []) f (second e)
    at_second i is (inr p) = first_behind vars (needs r) (n ∷ []) f (walk_holds vars r p.0 p.1)
        (inl (own i p.0 (walked vars s i is).kinded (walked vars r p.0 p.1).kinded p.2))

    at_first : (walk vars s ≡ Err f) ⊎ ((i : Kind) × (walk vars s ≡ Ok i) × (and_next (walk vars r) (λ j. next i j) ≡ Err f)) →
        IsFirstFailure vars (needs s ++ (needs r ++ n ∷ [])) f
    at_first (inl e) = first_in_front vars (needs s) (needs r ++ n ∷ []) f (first e)
    at_first (inr p) = first_behind vars (needs s) (needs r ++ n ∷ []) f (walk_holds vars s p.0 p.1)
        (at_second p.0 p.1 (next_err (walk vars r) (λ j. next p.0 j) f p.2))

-- the first fault of a recursive type
of_body : (vars : List Kind) (s : Tree) (f : KindFault) →
    (walk vars s ≡ Err f → IsFirstFault vars s f) → walk vars (rec s) ≡ Err f → IsFirstFault vars (rec s) f
of_body vars s f first e = at_body (next_err (walk vars s)
    (λ i. needs_session i (if reaches s 0 then Err NotContractive else Ok i)) f e)
  where
    at_body : (walk vars s ≡ Err f) ⊎ ((i : Kind) × (walk vars s ≡ Ok i) ×
        (needs_session i (if reaches s 0 then Err NotContractive else Ok i) ≡ Err f)) → IsFirstFault vars (rec s) f
    at_body (inl e) = first_in_front vars (needs s) (node (rec s) ∷ []) f (first e)
    at_body (inr p) = first_behind vars (needs s) (node (rec s) ∷ []) f (walk_holds vars s p.0 p.1)
        (inl (rec_fails vars s p.0 f (walked vars s p.0 p.1).kinded p.2))

-- what the walk of branches says: each has a kind, and the first that isn't below 1S has this one
all_walk_hold : (vars : List Kind) (bs : Branches) (found : Option Kind) → walk_all vars bs ≡ Ok found →
    AllHold vars (needs_all bs)
all_walk_hold vars none found e = tt
all_walk_hold vars (branch l s bs) found e =
    let first = next_ok (walk vars s) (λ i. and_next (walk_all vars bs)
    (λ later. Ok (if subkind i (session Once) then later else Some i))) found e in
    let later = next_ok (walk_all vars bs) (λ later. Ok (if subkind first.0 (session Once) then later else Some first.0)) found
    first.2 in
    hold_together vars (needs s) (needs_all bs) (walk_holds vars s first.0 first.1) (all_walk_hold vars bs later.0 later.1)

ok_is : {T : Type 0} (x y : T) → Path (Result T KindFault) (Ok x) (Ok y) → x ≡ y
ok_is x y e = cc

all_walk_wrong : (vars : List Kind) (bs : Branches) (k : Kind) → walk_all vars bs ≡ Ok (Some k) → IsFirstWrong vars (bodies bs) k
all_walk_wrong vars none k e = absurd (cc (ok_is None (Some k) e))
all_walk_wrong vars (branch l s bs) k e =
    let first = next_ok (walk vars s) (λ i. and_next (walk_all vars bs)
    (λ later. Ok (if subkind i (session Once) then later else Some i))) (Some k) e in
    let later = next_ok (walk_all vars bs) (λ later. Ok (if subkind first.0 (session Once) then later else Some first.0))
    (Some k) first.2 in
    pick (all_walk_wrong vars bs k) first.0 (walked vars s first.0 first.1).kinded later.0 later.1
    (subkind first.0 (session Once)) refl (ok_is (if subkind first.0 (session Once) then later.0 else Some first.0)
    (Some k) later.2)
  where
    pick : (walk_all vars bs ≡ Ok (Some k) → IsFirstWrong vars (bodies bs) k) → (i : Kind) → HasKind vars s i →
        (found : Option Kind) → walk_all vars bs ≡ Ok found → (b : Bool) → subkind i (session Once) ≡ b →
        (if b then found else Some i) ≡ Some k → IsFirstWrong vars (bodies (branch l s bs)) k
    pick rest i h found e true is f = inr (found_session vars s i h (below_session i is), rest (e ∙ ap Ok f))
    pick rest i h found e false is f = let same : i ≡ k = cc in
        inl (subst (λ j. HasKind vars s j) same h, ap (λ j. subkind j (session Once)) (sym same) ∙ is)

-- the first fault of a choice
of_choice : (vars : List Kind) (bs : Branches) (n : Need) (f : KindFault) →
    (walk_all vars bs ≡ Err f → IsFirstFailure vars (needs_all bs) f) →
    ((k : Kind) → IsFirstWrong vars (bodies bs) k → Fails vars n (WrongKind k (session Once))) →
    unless_double (double_label bs) (and_next (walk_all vars bs) choice_kind) ≡ Err f →
    IsFirstFailure vars (single bs ∷ (needs_all bs ++ n ∷ [])) f
of_choice vars bs n f inside own e = pick (double_label bs) refl e
  where
    of_wrong : (found : Option Kind) → walk_all vars bs ≡ Ok found → choice_kind found ≡ Err f → Fails vars n f
    of_wrong None is e = absurd (cc e)
    of_wrong (Some k) is e = subst (Fails vars n) (err_is (WrongKind k (session Once)) f e) (own k (all_walk_wrong vars bs k is))

    at_branches : (walk_all vars bs ≡ Err f) ⊎ ((found : Option Kind) × (walk_all vars bs ≡ Ok found) ×
        (choice_kind found ≡ Err f)) → IsFirstFailure vars (needs_all bs ++ n ∷ []) f
    at_branches (inl e) = first_in_front vars (needs_all bs) (n ∷ []) f (inside e)
    at_branches (inr p) = first_behind vars (needs_all bs) (n ∷ []) f (all_walk_hold vars bs p.0 p.1) (inl (of_wrong p.0 p.1 p.2))

    pick : (found : Option (List ℕ)) → double_label bs ≡ found →
        unless_double found (and_next (walk_all vars bs) choice_kind) ≡ Err f →
        IsFirstFailure vars (single bs ∷ (needs_all bs ++ n ∷ [])) f
    pick (Some l) is e = inl (subst (Fails vars (single bs)) (err_is (DoubleLabel l) f e) (double is))
    pick None is e = inr (λ g x. single_holds x is, at_branches (next_err (walk_all vars bs) choice_kind f e))

-- the first fault of branches
of_branch : (vars : List Kind) (l : List ℕ) (s : Tree) (bs : Branches) (f : KindFault) →
    (walk vars s ≡ Err f → IsFirstFault vars s f) → (walk_all vars bs ≡ Err f → IsFirstFailure vars (needs_all bs) f) →
    walk_all vars (branch l s bs) ≡ Err f → IsFirstFailure vars (needs s ++ needs_all bs) f
of_branch vars l s bs f first later e = at_first
    (next_err (walk vars s) (λ i. and_next (walk_all vars bs) (λ later. Ok (if subkind i (session Once) then later else Some i)))
    f e)
  where
    at_later : (i : Kind) → (walk_all vars bs ≡ Err f) ⊎
        ((found : Option Kind) × (walk_all vars bs ≡ Ok found) ×
        (Path (Result (Option Kind) KindFault) (Ok (if subkind i (session Once) then found else Some i)) (Err f))) →
        IsFirstFailure vars (needs_all bs) f
    at_later i (inl e) = later e
    at_later i (inr p) = absurd (cc p.2)

    at_first : (walk vars s ≡ Err f) ⊎ ((i : Kind) × (walk vars s ≡ Ok i) ×
        (and_next (walk_all vars bs) (λ later. Ok (if subkind i (session Once) then later else Some i)) ≡ Err f)) →
        IsFirstFailure vars (needs s ++ needs_all bs) f
    at_first (inl e) = first_in_front vars (needs s) (needs_all bs) f (first e)
    at_first (inr p) = first_behind vars (needs s) (needs_all bs) f (walk_holds vars s p.0 p.1)
        (at_later p.0 (next_err (walk_all vars bs) (λ later. Ok (if subkind p.0 (session Once) then later else Some p.0)) f p.2))

no_fault : {A : Type 0} (k : Kind) (f : KindFault) → Path (Result Kind KindFault) (Ok k) (Err f) → A
no_fault k f e = absurd (cc e)

mutual
  -- a fault that the walk answers is the first
  pub walk_fault : (vars : List Kind) (t : Tree) (f : KindFault) → walk vars t ≡ Err f → IsFirstFault vars t f
  walk_fault vars skip f e = no_fault _ f e
  walk_fault vars (send b) f e = no_fault _ f e
  walk_fault vars (receive b) f e = no_fault _ f e
  walk_fault vars close f e = no_fault _ f e
  walk_fault vars wait f e = no_fault _ f e
  walk_fault vars (select bs) f e = of_choice vars bs (node (select bs)) f (all_walk_fault vars bs f) (λ k w. wrong w) e
  walk_fault vars (offer bs) f e = of_choice vars bs (node (offer bs)) f (all_walk_fault vars bs f) (λ k w. wrong w) e
  walk_fault vars (seq s r) f e =
      of_two vars s r (λ i j. needs_session i (needs_session j (Ok (session (join i.uses j.uses))))) (node (seq s r)) f
      (walk_fault vars s f) (walk_fault vars r f)
      (λ i j h g. seq_fails vars s r i j (session (join i.uses j.uses)) f h g) e
  walk_fault vars (rec s) f e = of_body vars s f (walk_fault vars s f) e
  walk_fault vars (back n) f e = no_fault _ f e
  walk_fault vars (var n) f e = inl (var_fails vars n f e)
  walk_fault vars (plain b) f e = no_fault _ f e
  walk_fault vars (arrow u s r) f e =
      of_two vars s r (λ i j. Ok (top u)) (node (arrow u s r)) f (walk_fault vars s f) (walk_fault vars r f)
      (λ i j h g e. no_fault (top u) f e) e
  walk_fault vars (pair s r) f e =
      of_two vars s r (λ i j. Ok (top (join i.uses j.uses))) (node (pair s r)) f (walk_fault vars s f) (walk_fault vars r f)
      (λ i j h g e. no_fault (top (join i.uses j.uses)) f e) e
  walk_fault vars (named n) f e = no_fault _ f e

  all_walk_fault : (vars : List Kind) (bs : Branches) (f : KindFault) → walk_all vars bs ≡ Err f →
      IsFirstFailure vars (needs_all bs) f
  all_walk_fault vars none f e = absurd (cc e)
  all_walk_fault vars (branch l s bs) f e = of_branch vars l s bs f (walk_fault vars s f) (all_walk_fault vars bs f) e

-- the walk answers with a fault exactly where it is the first
pub walk_faults : (vars : List Kind) (t : Tree) (f : KindFault) → (walk vars t ≡ Err f) ↔ IsFirstFault vars t f
walk_faults vars t f = (walk_fault vars t f, λ h. pick h (walk vars t) refl)
  where
    pick : IsFirstFault vars t f → (found : Result Kind KindFault) → walk vars t ≡ found → found ≡ Err f
    pick h (Ok k) is = absurd (no_failure vars (needs t) f (walk_holds vars t k is) h)
    pick h (Err g) is = ap Err (one_failure vars (needs t) g f (walk_fault vars t g is) h)

-- a fault that is answered is the first
pub first_fault : (vars : List Kind) (t : Tree) (answer : Result Kind KindFault) → Answers (walk vars t) answer → IfErr answer
    (λ f. f ≢ Memory → IsFirstFault vars t f)
first_fault vars t (Ok k) e = tt
first_fault vars t (Err f) (inl e) = λ n. walk_fault vars t f (sym e)
first_fault vars t (Err f) (inr e) = λ n. absurd (n (err_is f Memory e))

-- what an answer says
pub ruleset answer_laws = (well_formed, first_fault, refused)
