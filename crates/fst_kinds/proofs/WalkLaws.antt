-- The walk answers with a kind exactly where the type is well formed of that kind.
use Rattle.std.proofs.Common.{◌≡◌, ◌∙◌, ◌↔◌, inl, inr, refl, sym, ap, subst, ℕ, List, Bool, true, false, Option, Some, None, Result, Ok, Err}
use Rattle.std.specs.Prelude.{◌≢◌, if◌then◌else◌, ok_or, slice_get, IfOk, IfErr}
use Rattle.fst_types.specs.Tree.{Tree, skip, send, receive, close, wait, select, offer, seq, rec, back, var, plain, arrow, pair, named, Branches, none, branch}
use Rattle.fst_types.specs.Scoped.{IsScoped}
use Rattle.fst_types.specs.Order.{IsSorted, IsOrdered, AllOrdered, AreSorted, AreRising, EachChoice, EachChoiceBelow}
use Rattle.fst_types.specs.declared.kind.Kind.{Kind}
use Rattle.fst_types.specs.declared.kind.Use.TheVariants.{Once}
use Rattle.fst_kinds.specs.declared.fault.KindFault.{KindFault}
use Rattle.fst_kinds.specs.declared.fault.KindFault.TheVariants.{NotContractive, WrongKind, UnboundType, Memory}
use Rattle.fst_kinds.specs.Kinds.{session, top, subkind, join, HasKind, AllSessions}
use Rattle.fst_kinds.specs.Contractive.{reaches, IsContractive, AllContractive}
use Rattle.fst_kinds.specs.WellFormed.{IsWellFormed}
use Rattle.fst_kinds.specs.Walk.{double_label, needs_session, and_next, unless_double, choice_kind, walk, walk_all, Answers}
use Rattle.fst_kinds.proofs.KindLaws.{below_session, session_below}
use Rattle.fst_kinds.proofs.LabelLaws.{rising_single, sorted_rising}

-- what goes on to an answer had an answer itself
pub next_ok : {T U : Type 0} (found : Result T KindFault) (next : T → Result U KindFault) (u : U) → and_next found next ≡ Ok u →
    (x : T) × (found ≡ Ok x) × (next x ≡ Ok u)
next_ok (Ok x) next u e = (x, refl, e)
next_ok (Err f) next u e = absurd (cc e)

tested_ok : {T : Type 0} (test : Bool) (next : Result T KindFault) (f : KindFault) (k : T) →
    (if test then next else Err f) ≡ Ok k → (test ≡ true) × (next ≡ Ok k)
tested_ok true next f k e = (refl, e)
tested_ok false next f k e = absurd (cc e)

-- what goes on past the need of a session type had one
pub session_ok : (i : Kind) (next : Result Kind KindFault) (k : Kind) → needs_session i next ≡ Ok k → (i ≡ session i.uses) ×
    (next ≡ Ok k)
session_ok i next k e =
    let below = tested_ok (subkind i (session Once)) next (WrongKind i (session Once)) k e in
    (below_session i below.0, below.1)

-- a recursive type with an answer has that of its body, and its body doesn't come to its variable first
pub rec_ok : (test : Bool) (i k : Kind) → (if test then Err NotContractive else Ok i) ≡ Ok k → (test ≡ false) × (i ≡ k)
rec_ok true i k e = absurd (cc e)
rec_ok false i k e = (refl, cc e)

var_ok : (found : Option Kind) (f : KindFault) (k : Kind) → ok_or found f ≡ Ok k → found ≡ Some k
var_ok None f k e = absurd (cc e)
var_ok (Some i) f k e = cc e

-- a choice with an answer has no label twice
pub double_ok : (double : Option (List ℕ)) (next : Result Kind KindFault) (k : Kind) → unless_double double next ≡ Ok k →
    (double ≡ None) × (next ≡ Ok k)
double_ok None next k e = (refl, e)
double_ok (Some l) next k e = absurd (cc e)

-- and no branch of a wrong kind
pub wrong_ok : (wrong : Option Kind) (k : Kind) → choice_kind wrong ≡ Ok k → (wrong ≡ None) × (k ≡ session Once)
wrong_ok None k e = (refl, cc e)
wrong_ok (Some i) k e = absurd (cc e)

-- the first kind not below 1S, as the walk of branches answers it
abbrev first_wrong : Option Kind → Result (Option Kind) KindFault
first_wrong wrong = Ok wrong

-- where the first kind that is wrong is none, each is right
pub right_ok : (test : Bool) (wrong : Option Kind) (i : Kind) → first_wrong (if test then wrong else Some i) ≡ first_wrong None →
    (test ≡ true) × (wrong ≡ None)
right_ok true wrong i e = (refl, cc e)
right_ok false wrong i e = absurd (cc e)

-- what an answer says of a choice
pub choice_ok : (vars : List Kind) (bs : Branches) (k : Kind) →
    unless_double (double_label bs) (and_next (walk_all vars bs) choice_kind) ≡ Ok k →
    (double_label bs ≡ None) × (walk_all vars bs ≡ Ok None) × (k ≡ session Once)
choice_ok vars bs k e =
    let single = double_ok (double_label bs) (and_next (walk_all vars bs) choice_kind) k e in
    let all = next_ok (walk_all vars bs) choice_kind k single.1 in
    let right = wrong_ok all.0 k all.2 in
    (single.0, all.1 ∙ ap Ok right.0, right.1)

-- no label of the choice stands twice
abbrev pub IsSingle : Branches → Type 0
IsSingle bs = double_label bs ≡ None

-- what an answer says of a type
pub record Walked (vars : List Kind) (t : Tree) (k : Kind) : Type 0 where
  pub kinded : HasKind vars t k
  pub contractive : IsContractive t
  pub single : EachChoice IsSingle t

-- what it says of branches
pub record AllWalked (vars : List Kind) (bs : Branches) : Type 0 where
  pub kinded : AllSessions vars bs
  pub contractive : AllContractive bs
  pub single : EachChoiceBelow IsSingle bs

mutual
  -- a type with an answer is as the answer says
  pub walked : (vars : List Kind) (t : Tree) (k : Kind) → walk vars t ≡ Ok k → Walked vars t k
  walked vars skip k e = record { kinded = cc; contractive = tt; single = tt }
  walked vars (send b) k e = record { kinded = cc; contractive = tt; single = tt }
  walked vars (receive b) k e = record { kinded = cc; contractive = tt; single = tt }
  walked vars close k e = record { kinded = cc; contractive = tt; single = tt }
  walked vars wait k e = record { kinded = cc; contractive = tt; single = tt }
  walked vars (select bs) k e =
      let choice = choice_ok vars bs k e in
      let all = all_walked vars bs choice.1 in
      record { kinded = (all.kinded, choice.2); contractive = all.contractive; single = (choice.0, all.single) }
  walked vars (offer bs) k e =
      let choice = choice_ok vars bs k e in
      let all = all_walked vars bs choice.1 in
      record { kinded = (all.kinded, choice.2); contractive = all.contractive; single = (choice.0, all.single) }
  walked vars (seq s r) k e =
      let first = next_ok (walk vars s) (λ i. and_next (walk vars r)
      (λ j. needs_session i (needs_session j (Ok (session (join i.uses j.uses)))))) k e in
      let second = next_ok (walk vars r) (λ j. needs_session first.0 (needs_session j (Ok (session (join first.0.uses j.uses)))))
      k first.2 in
      let below = session_ok first.0 (needs_session second.0 (Ok (session (join first.0.uses second.0.uses)))) k second.2 in
      let next = session_ok second.0 (Ok (session (join first.0.uses second.0.uses))) k below.1 in
      let part = walked vars s first.0 first.1 in
      let rest = walked vars r second.0 second.1 in
      record {
        kinded = (
          first.0.uses,
          second.0.uses,
          subst (λ i. HasKind vars s i) below.0 part.kinded,
          subst
              (λ j. HasKind vars r j) next.0 rest.kinded,
          cc (next.1),
        );
        contractive = (part.contractive, rest.contractive);
        single = (part.single, rest.single);
      }
  walked vars (rec s) k e =
      let body = next_ok (walk vars s) (λ i. needs_session i (if reaches s 0 then Err NotContractive else Ok i)) k e in
      let below = session_ok body.0 (if reaches s 0 then Err NotContractive else Ok body.0) k body.2 in
      let own = rec_ok (reaches s 0) body.0 k below.1 in
      let part = walked vars s body.0 body.1 in
      record {
        kinded = (subst (λ i. HasKind vars s i) own.1 part.kinded, ap (λ (i : Kind). i.prekind) (sym own.1 ∙ below.0));
        contractive = (part.contractive, own.0);
        single = part.single;
      }
  walked vars (back n) k e = record { kinded = cc; contractive = tt; single = tt }
  walked vars (var n) k e = record { kinded = var_ok (slice_get vars n) (UnboundType n) k e; contractive = tt; single = tt }
  walked vars (plain b) k e = record { kinded = cc; contractive = tt; single = tt }
  walked vars (arrow u s r) k e =
      let first = next_ok (walk vars s) (λ i. and_next (walk vars r) (λ j. Ok (top u))) k e in
      let second = next_ok (walk vars r) (λ j. Ok (top u)) k first.2 in
      let part = walked vars s first.0 first.1 in
      let rest = walked vars r second.0 second.1 in
      record {
        kinded = ((first.0, part.kinded), (second.0, rest.kinded), cc (second.2));
        contractive = (part.contractive, rest.contractive);
        single = (part.single, rest.single);
      }
  walked vars (pair s r) k e =
      let first = next_ok (walk vars s) (λ i. and_next (walk vars r) (λ j. Ok (top (join i.uses j.uses)))) k e in
      let second = next_ok (walk vars r) (λ j. Ok (top (join first.0.uses j.uses))) k first.2 in
      let part = walked vars s first.0 first.1 in
      let rest = walked vars r second.0 second.1 in
      record {
        kinded = (first.0, second.0, part.kinded, rest.kinded, cc (second.2));
        contractive = (part.contractive, rest.contractive);
        single = (part.single, rest.single);
      }
  walked vars (named n) k e = record { kinded = cc; contractive = tt; single = tt }

  pub all_walked : (vars : List Kind) (bs : Branches) → walk_all vars bs ≡ Ok None → AllWalked vars bs
  all_walked vars none e = record { kinded = tt; contractive = tt; single = tt }
  all_walked vars (branch l s bs) e =
      let first = next_ok (walk vars s) (λ i. and_next (walk_all vars bs)
      (λ wrong. Ok (if subkind i (session Once) then wrong else Some i))) None e in
      let later = next_ok (walk_all vars bs) (λ wrong. Ok (if subkind first.0 (session Once) then wrong else Some first.0)) None
      first.2 in
      let right = right_ok (subkind first.0 (session Once)) later.0 first.0 later.2 in
      let part = walked vars s first.0 first.1 in
      let rest = all_walked vars bs (later.1 ∙ ap Ok right.1) in
      record {
        kinded = ((first.0.uses, subst (λ i. HasKind vars s i) (below_session first.0 right.0) part.kinded), rest.kinded);
        contractive = (part.contractive, rest.contractive);
        single = (part.single, rest.single);
      }

-- a type below 1S goes on
past_session : (i : Kind) (next : Result Kind KindFault) → i ≡ session i.uses → needs_session i next ≡ next
past_session i next e =
    ap (λ test. if test then next else Err (WrongKind i (session Once)))
    (ap (λ j. subkind j (session Once)) e ∙ session_below i.uses)

-- the kind of a choice whose branches rise and are all session types
choice_kinded : (vars : List Kind) (bs : Branches) (k : Kind) → AreRising bs → walk_all vars bs ≡ Ok None → k ≡ session Once →
    unless_double (double_label bs) (and_next (walk_all vars bs) choice_kind) ≡ Ok k
choice_kinded vars bs k rising all e =
    ap (λ double. unless_double double (and_next (walk_all vars bs) choice_kind)) (rising_single bs rising)
    ∙ ap (λ found. and_next found choice_kind) all ∙ ap Ok (sym e)

mutual
  kinded_walk : (vars : List Kind) (t : Tree) (k : Kind) → HasKind vars t k → IsContractive t → IsOrdered t → walk vars t ≡ Ok k
  kinded_walk vars skip k h c o = cc
  kinded_walk vars (send b) k h c o = cc
  kinded_walk vars (receive b) k h c o = cc
  kinded_walk vars close k h c o = cc
  kinded_walk vars wait k h c o = cc
  kinded_walk vars (select bs) k h c o = choice_kinded vars bs k o.0 (kinded_walk_all vars bs h.0 c o.1) h.1
  kinded_walk vars (offer bs) k h c o = choice_kinded vars bs k o.0 (kinded_walk_all vars bs h.0 c o.1) h.1
  kinded_walk vars (seq s r) k h c o =
      ap (λ found. and_next found (λ i. and_next (walk vars r)
      (λ j. needs_session i (needs_session j (Ok (session (join i.uses j.uses)))))))
      (kinded_walk vars s (session h.0) h.2 c.0 o.0)
      ∙ ap (λ found. and_next found (λ j. needs_session (session h.0) (needs_session j (Ok (session (join h.0 j.uses))))))
      (kinded_walk vars r (session h.1) h.3 c.1 o.1)
      ∙ past_session (session h.0) (needs_session (session h.1) (Ok (session (join h.0 h.1)))) refl
      ∙ past_session (session h.1) (Ok (session (join h.0 h.1))) refl
      ∙ ap Ok (sym h.4)
  kinded_walk vars (rec s) k h c o =
      ap (λ found. and_next found (λ i. needs_session i (if reaches s 0 then Err NotContractive else Ok i)))
      (kinded_walk vars s k h.0 c.0 o)
      ∙ past_session k (if reaches s 0 then Err NotContractive else Ok k) (λ i. record { prekind = h.1 i; uses = k.uses })
      ∙ ap (λ test. if test then Err NotContractive else Ok k) c.1
  kinded_walk vars (back n) k h c o = cc
  kinded_walk vars (var n) k h c o = ap (λ found. ok_or found (UnboundType n)) h
  kinded_walk vars (plain b) k h c o = cc
  kinded_walk vars (arrow u s r) k h c o =
      ap (λ found. and_next found (λ i. and_next (walk vars r) (λ j. Ok (top u)))) (kinded_walk vars s h.0.0 h.0.1 c.0 o.0)
      ∙ ap (λ found. and_next found (λ j. Ok (top u))) (kinded_walk vars r h.1.0 h.1.1 c.1 o.1)
      ∙ ap Ok (sym h.2)
  kinded_walk vars (pair s r) k h c o =
      ap (λ found. and_next found (λ i. and_next (walk vars r) (λ j. Ok (top (join i.uses j.uses)))))
      (kinded_walk vars s h.0 h.2 c.0 o.0)
      ∙ ap (λ found. and_next found (λ j. Ok (top (join h.0.uses j.uses)))) (kinded_walk vars r h.1 h.3 c.1 o.1)
      ∙ ap Ok (sym h.4)
  kinded_walk vars (named n) k h c o = cc

  kinded_walk_all : (vars : List Kind) (bs : Branches) → AllSessions vars bs → AllContractive bs → AllOrdered bs →
      walk_all vars bs ≡ Ok None
  kinded_walk_all vars none h c o = refl
  kinded_walk_all vars (branch l s bs) h c o =
      ap (λ found. and_next found (λ i. and_next (walk_all vars bs)
      (λ wrong. Ok (if subkind i (session Once) then wrong else Some i)))) (kinded_walk vars s (session h.0.0) h.0.1 c.0 o.0)
      ∙ ap (λ found. and_next found (λ wrong. Ok (if subkind (session h.0.0) (session Once) then wrong else Some
      (session h.0.0)))) (kinded_walk_all vars bs h.1 c.1 o.1)
      ∙ ap (λ test. Ok (if test then None else Some (session h.0.0))) (session_below h.0.0)

mutual
  -- types whose labels are sorted and stand once are ordered
  single_ordered : (t : Tree) → IsSorted t → EachChoice IsSingle t → IsOrdered t
  single_ordered skip s o = tt
  single_ordered (send b) s o = tt
  single_ordered (receive b) s o = tt
  single_ordered close s o = tt
  single_ordered wait s o = tt
  single_ordered (select bs) s o = (sorted_rising bs s.0 o.0, all_single_ordered bs s.1 o.1)
  single_ordered (offer bs) s o = (sorted_rising bs s.0 o.0, all_single_ordered bs s.1 o.1)
  single_ordered (seq t r) s o = (single_ordered t s.0 o.0, single_ordered r s.1 o.1)
  single_ordered (rec t) s o = single_ordered t s o
  single_ordered (back n) s o = tt
  single_ordered (var n) s o = tt
  single_ordered (plain b) s o = tt
  single_ordered (arrow u t r) s o = (single_ordered t s.0 o.0, single_ordered r s.1 o.1)
  single_ordered (pair t r) s o = (single_ordered t s.0 o.0, single_ordered r s.1 o.1)
  single_ordered (named n) s o = tt

  all_single_ordered : (bs : Branches) → EachChoiceBelow AreSorted bs → EachChoiceBelow IsSingle bs → AllOrdered bs
  all_single_ordered none s o = tt
  all_single_ordered (branch l t bs) s o = (single_ordered t s.0 o.0, all_single_ordered bs s.1 o.1)

-- a kind that the walk finds is one of which the type is well formed
pub well_formed : (vars : List Kind) (t : Tree) (answer : Result Kind KindFault) → IsScoped 0 t → IsSorted t →
    Answers (walk vars t) answer →
    IfOk answer (λ k. IsWellFormed vars t k)
well_formed vars t (Ok k) scoped sorted (inr e) = absurd (cc e)
well_formed vars t (Ok k) scoped sorted (inl e) =
    let found = walked vars t k (sym e) in
    record {
      kinded = found.kinded;
      contractive = found.contractive;
      scoped = scoped;
      ordered =
          single_ordered t sorted found.single;
    }
well_formed vars t (Err f) scoped sorted e = tt

-- the walk finds a kind exactly where the type is well formed of it
pub walk_kinds : (vars : List Kind) (t : Tree) (k : Kind) → IsScoped 0 t → IsSorted t →
    (walk vars t ≡ Ok k) ↔ IsWellFormed vars t k
walk_kinds vars t k scoped sorted = (
  λ e. well_formed vars t (Ok k) scoped sorted (inl (sym e)),
  λ w. kinded_walk vars t k w.kinded w.contractive w.ordered,
)

-- one fault that is answered is one fault
pub err_is : {T : Type 0} (f g : KindFault) → Path (Result T KindFault) (Err f) (Err g) → f ≡ g
err_is f g e = cc

-- a type in which the walk finds a fault is well formed of no kind
fault_refused : (vars : List Kind) (t : Tree) (f : KindFault) → Err f ≡ walk vars t → (k : Kind) → IsWellFormed vars t k → ⊥
fault_refused vars t f e k w =
    let found = kinded_walk vars t k w.kinded w.contractive w.ordered in
    absurd (cc (e ∙ found))

-- a type with a fault is well formed of no kind
pub refused : (vars : List Kind) (t : Tree) (answer : Result Kind KindFault) → Answers (walk vars t) answer →
    IfErr answer (λ f. f ≢ Memory → (k : Kind) → IsWellFormed vars t k → ⊥)
refused vars t (Ok k) e = tt
refused vars t (Err f) (inl e) = λ n. fault_refused vars t f e
refused vars t (Err f) (inr e) = λ n. absurd (n (err_is f Memory e))
