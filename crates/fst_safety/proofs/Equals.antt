-- Laws of the equality of closed types.
use Rattle.std.proofs.Common.{◌≡◌, ℕ, [], Bool, true, false, Some, refl, sym, ap, ◌∙◌, subst, arith}
use Rattle.std.specs.Prelude.{◌&&◌, IfSome}
use Rattle.std.proofs.lemmas.Bool.{true≢false, false≢true, and_parts}
use Rattle.fst_types.specs.Tree.{Tree, skip, send, receive, close, wait, select, offer, seq, rec, back, var, plain, arrow, pair, named}
use Rattle.fst_types.specs.declared.base.Base.{Base}
use Rattle.fst_types.specs.declared.kind.Kind.{Kind}
use Rattle.fst_types.specs.declared.kind.Use.{Use}
use Rattle.fst_types.specs.declared.kind.Use.TheVariants.{Many, Once}
use Rattle.fst_types.specs.declared.label.Label.{Label}
use Rattle.fst_kinds.specs.Kinds.{session, join, HasKind}
use Rattle.fst_kinds.specs.Contractive.{IsContractive, IsGuarded}
use Rattle.fst_kinds.specs.WellFormed.{IsSession}
use Rattle.fst_kinds.proofs.Laws.{one_kind, not_top, unreached}
use Rattle.fst_lts.specs.Step.{terminated, step}
use Rattle.fst_lts.proofs.Laws.{guarded_first, guarded_second, guarded_body, no_variable, step_session}
use Rattle.fst_instances.proofs.Laws.{equal_itself, equal_back, equal_through, equal_kind, equal_function, equal_pair, equal_base_type, equal_data_type, equal_session, equal_steps}
use Rattle.fst_derivations.specs.Parts.{IsFormed, HasUse}
use Rattle.fst_safety.specs.Running.{Equals}

-- a well-formed closed type equals itself
pub equals_itself : (t : Tree) → IsFormed [] t → Equals t t
equals_itself t f = record { left = f; right = f; equal = equal_itself [] t f.0 f.1 }

-- equality goes back
pub equals_back : {s t : Tree} → Equals s t → Equals t s
equals_back e = record { left = e.right; right = e.left; equal = equal_back [] e.equal }

-- and through
pub equals_through : {s r t : Tree} → Equals s r → Equals r t → Equals s t
equals_through e f = record { left = e.left; right = f.right; equal = equal_through [] e.equal f.equal }

-- a type with a use is well formed
pub use_formed : {t : Tree} {u : Use} → HasUse [] t u → IsFormed [] t
use_formed h = (h.kind, h.formed)

-- a well-formed type has a use
pub formed_use : {t : Tree} → IsFormed [] t → (u : Use) × HasUse [] t u
formed_use f = (f.0.uses, record { kind = f.0; formed = f.1; is = refl })

-- a type has one use
pub has_one_use : {t : Tree} {u v : Use} → HasUse [] t u → HasUse [] t v → u ≡ v
has_one_use {t} h k = sym h.is ∙ ap (λ (i : Kind). i.uses) (one_kind [] t h.kind k.kind h.formed.kinded k.formed.kinded) ∙ k.is

-- equal types have the same use
pub equals_use : {s t : Tree} {u : Use} → HasUse [] s u → Equals s t → HasUse [] t u
equals_use h e = record {
  kind = e.right.0;
  formed = e.right.1;
  is = ap (λ (i : Kind). i.uses) (sym (equal_kind [] e.equal h.kind e.right.0 h.formed.kinded e.right.1.kinded)) ∙ h.is;
}

-- the parts of a function type are well formed
abbrev pub arrow_parts : {u : Use} {s r : Tree} → IsFormed [] (arrow u s r) → IsFormed [] s × IsFormed [] r
arrow_parts f =
    let w = f.1 in (
      (w.kinded.0.0, record { kinded = w.kinded.0.1; contractive = w.contractive.0; scoped = w.scoped.0; ordered = w.ordered.0 }),
      (w.kinded.1.0, record { kinded = w.kinded.1.1; contractive = w.contractive.1; scoped = w.scoped.1; ordered = w.ordered.1 }),
    )

-- so are those of a pair type
abbrev pub pair_parts : {s r : Tree} → IsFormed [] (pair s r) → IsFormed [] s × IsFormed [] r
pair_parts f =
    let w = f.1 in (
      (w.kinded.0, record { kinded = w.kinded.2; contractive = w.contractive.0; scoped = w.scoped.0; ordered = w.ordered.0 }),
      (w.kinded.1, record { kinded = w.kinded.3; contractive = w.contractive.1; scoped = w.scoped.1; ordered = w.ordered.1 }),
    )

-- what equals a function type is one of the same use with equal parts
pub equals_arrow : {u : Use} {s r t : Tree} → Equals (arrow u s r) t → (a : Tree) × (b : Tree) ×
    (t ≡ arrow u a b) × Equals s a × Equals r b
equals_arrow e =
    let f = equal_function [] e.equal in
    let l = arrow_parts e.left in
    let r = arrow_parts (subst (IsFormed []) f.is e.right) in (
      f.domain,
      f.codomain,
      f.is,
      record { left = l.0; right = r.0; equal = f.domains },
      record { left = l.1; right = r.1; equal = f.codomains },
    )

-- what equals a pair type is one with equal parts
pub equals_pair : {s r t : Tree} → Equals (pair s r) t → (a : Tree) × (b : Tree) × (t ≡ pair a b) × Equals s a × Equals r b
equals_pair e =
    let f = equal_pair [] e.equal in
    let l = pair_parts e.left in
    let r = pair_parts (subst (IsFormed []) f.is e.right) in (
      f.first,
      f.second,
      f.is,
      record { left = l.0; right = r.0; equal = f.firsts },
      record { left = l.1; right = r.1; equal = f.seconds },
    )

-- what equals a base type is the base type
pub equals_plain : {b : Base} {t : Tree} → Equals (plain b) t → t ≡ plain b
equals_plain e = equal_base_type [] e.equal

-- what equals a data type is the data type
pub equals_named : {n : ℕ} {t : Tree} → Equals (named n) t → t ≡ named n
equals_named e = equal_data_type [] e.equal

-- what equals a session type is one
pub equals_session : {s t : Tree} → Equals s t → IsSession [] s → IsSession [] t
equals_session e h = (equal_session [] e.equal h).0

-- a session type is well formed
pub session_formed : {s : Tree} → IsSession [] s → IsFormed [] s
session_formed h = (session h.0, h.1)

-- what a step leaves of a session type is one
pub session_step : (s t : Tree) (a : Label) → IsSession [] s → step s a ≡ Some t → IsSession [] t
session_step s t a h e = subst (λ o. IfSome o (IsSession [])) e (step_session [] s a h)

-- equal session types step by the same labels to equal types
pub equals_steps : (s r t : Tree) (a : Label) → Equals s r → IsSession [] s → step s a ≡ Some t → (next : Tree) ×
    (step r a ≡ Some next) × Equals t next
equals_steps s r t a e h q =
    let f = equal_steps [] e.equal h a t q in (
      f.next,
      f.steps,
      record {
        left = session_formed (session_step s t a h q);
        right =
            session_formed (session_step r f.next a (equals_session e h) f.steps);
        equal = f.equal;
      },
    )

-- two function types that are equal have the same use and equal parts
pub arrows_equal : {u v : Use} {s r a b : Tree} → Equals (arrow u s r) (arrow v a b) → (u ≡ v) × Equals s a × Equals r b
arrows_equal {u} {v} {s} {r} {a} {b} e =
    let f = equals_arrow e in
    let q : arrow v a b ≡ arrow u f.0 f.1 = f.2 in
    (use_same q, subst (Equals s) (sym (from_same q)) f.3, subst (Equals r) (sym (to_same q)) f.4)
  where
    use_same : {x y : Tree} → arrow v a b ≡ arrow u x y → u ≡ v
    use_same q = cc

    from_same : {x y : Tree} → arrow v a b ≡ arrow u x y → a ≡ x
    from_same q = cc

    to_same : {x y : Tree} → arrow v a b ≡ arrow u x y → b ≡ y
    to_same q = cc

-- two pair types that are equal have equal parts
pub pairs_equal : {s r a b : Tree} → Equals (pair s r) (pair a b) → Equals s a × Equals r b
pairs_equal {s} {r} {a} {b} e =
    let f = equals_pair e in
    (subst (Equals s) (sym (first_same f.2)) f.3, subst (Equals r) (sym (second_same f.2)) f.4)
  where
    first_same : {x y : Tree} → pair a b ≡ pair x y → a ≡ x
    first_same q = cc

    second_same : {x y : Tree} → pair a b ≡ pair x y → b ≡ y
    second_same q = cc

-- a base type is no session type
pub plain_no_session : {A : Type 0} {b : Base} → IsSession [] (plain b) → A
plain_no_session h = not_top h.0 Many h.1.kinded

-- nor is a data type
pub named_no_session : {A : Type 0} {n : ℕ} → IsSession [] (named n) → A
named_no_session h = not_top h.0 Many h.1.kinded

-- nor a function type
pub arrow_no_session : {A : Type 0} {u : Use} {s r : Tree} → IsSession [] (arrow u s r) → A
arrow_no_session {u = u} h = not_top h.0 u h.1.kinded.2

-- nor a pair type
pub pair_no_session : {A : Type 0} {s r : Tree} → IsSession [] (pair s r) → A
pair_no_session h = not_top h.0 _ h.1.kinded.4

-- a terminated session type has the kind *S
ended_many : (s : Tree) (u : Use) → HasKind [] s (session u) → terminated s ≡ true → u ≡ Many
ended_many skip u h e = ap (λ (k : Kind). k.uses) h
ended_many (send b) u h e = absurd (false≢true e)
ended_many (receive b) u h e = absurd (false≢true e)
ended_many close u h e = absurd (false≢true e)
ended_many wait u h e = absurd (false≢true e)
ended_many (select bs) u h e = absurd (false≢true e)
ended_many (offer bs) u h e = absurd (false≢true e)
ended_many (seq s r) u h e =
    let over = and_parts (terminated s) (terminated r) e in
    let front = ended_many s h.0 h.2 over.0 in
    let next = ended_many r h.1 h.3 over.1 in
    ap (λ (k : Kind). k.uses) h.4 ∙ (λ i. join (front i) (next i))
ended_many (rec s) u h e = ended_many s u h.0 e
ended_many (back k) u h e = absurd (false≢true e)
ended_many (var k) u h e = absurd (false≢true e)
ended_many (plain b) u h e = absurd (false≢true e)
ended_many (arrow v s r) u h e = absurd (false≢true e)
ended_many (pair s r) u h e = absurd (false≢true e)
ended_many (named k) u h e = absurd (false≢true e)

-- a closed session type that isn't terminated has the kind 1S
lively_once : (s : Tree) (u : Use) → HasKind [] s (session u) → IsGuarded s → IsContractive s → terminated s ≡ false → u ≡ Once
lively_once skip u h g o e = absurd (true≢false e)
lively_once (send b) u h g o e = ap (λ (k : Kind). k.uses) h
lively_once (receive b) u h g o e = ap (λ (k : Kind). k.uses) h
lively_once close u h g o e = ap (λ (k : Kind). k.uses) h
lively_once wait u h g o e = ap (λ (k : Kind). k.uses) h
lively_once (select bs) u h g o e = ap (λ (k : Kind). k.uses) h.1
lively_once (offer bs) u h g o e = ap (λ (k : Kind). k.uses) h.1
lively_once (seq s r) u h g o e =
    pick (lively_once s h.0 h.2 (guarded_first s r g) o.0) (λ d. lively_once r h.1 h.3 d o.1) (terminated s) refl
  where
    whole : u ≡ join h.0 h.1
    whole = ap (λ (k : Kind). k.uses) h.4

    pick : (terminated s ≡ false → h.0 ≡ Once) → (IsGuarded r → terminated r ≡ false → h.1 ≡ Once) →
        (c : Bool) → terminated s ≡ c → u ≡ Once
    pick front next true is =
        whole ∙ ap (λ x. join x h.1) (ended_many s h.0 h.2 is)
        ∙ next (guarded_second s r g is) (sym (ap (λ c. c && terminated r) is) ∙ e)
    pick front next false is = whole ∙ ap (λ x. join x h.1) (front is)
lively_once (rec s) u h g o e = lively_once s u h.0 (guarded_body s o.1 g) o.0 e
lively_once (back k) u h g o e = absurd (no_variable k g)
lively_once (var k) u h g o e = absurd (cc h)
lively_once (plain b) u h g o e = not_top u Many h
lively_once (arrow v s r) u h g o e = not_top u v h.2
lively_once (pair s r) u h g o e = not_top u _ h.4
lively_once (named k) u h g o e = not_top u Many h

-- a closed session type that still moves has values that are used once
pub moving_once : (s : Tree) → IsSession [] s → terminated s ≡ false → HasUse [] s Once
moving_once s h e = record {
  kind = session h.0;
  formed = h.1;
  is = lively_once s h.0 h.1.kinded (λ k. unreached s 0 k h.1.scoped (omega arith)) h.1.contractive e;
}

-- and one whose values may be copied moves no more
pub copied_ended : (s : Tree) → IsSession [] s → HasUse [] s Many → terminated s ≡ true
copied_ended s h u = pick (terminated s) refl
  where
    pick : (c : Bool) → terminated s ≡ c → terminated s ≡ true
    pick true is = is
    pick false is = absurd (many_once (has_one_use u (moving_once s h is)))
      where
        many_once : Many ≡ Once → ⊥
        many_once q = cc
