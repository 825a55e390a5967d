-- Session types and variables that are well formed and agree are equal.
use Rattle.std.proofs.Common.{◌≡◌, ◌∙◌, ◌⊎◌, inl, inr, ℕ, zero, suc, Bool, true, false, List, [], ◌∷◌, Option, Some, None, refl, sym, ap, subst}
use Rattle.std.specs.Prelude.{slice_get, if◌then◌else◌}
use Rattle.fst_base.specs.Agreement.{Agree, AgreeTo, BothOrNeither}
use Rattle.fst_base.proofs.AgreementLaws.{agrees_back}
use Rattle.fst_types.specs.Tree.{Tree, skip, send, receive, close, wait, select, offer, seq, rec, back, var, plain, arrow, pair, named}
use Rattle.fst_types.specs.declared.kind.Kind.{Kind}
use Rattle.fst_types.specs.declared.kind.Prekind.{Prekind}
use Rattle.fst_types.specs.declared.kind.Prekind.TheVariants.{Session, Top}
use Rattle.fst_types.specs.declared.kind.Use.{Use}
use Rattle.fst_types.specs.declared.kind.Use.TheVariants.{Many, Once}
use Rattle.fst_types.specs.declared.label.Label.{Label}
use Rattle.fst_types.specs.declared.label.Label.TheVariants.{Var}
use Rattle.fst_types.specs.Order.{same_label}
use Rattle.fst_types.proofs.Laws.{same_label-same, same_label-itself}
use Rattle.fst_kinds.specs.Kinds.{session, top, join, HasKind}
use Rattle.fst_kinds.specs.WellFormed.{IsWellFormed, IsSession}
use Rattle.fst_kinds.proofs.Laws.{session_of, not_top, unfolding_of_kind}
use Rattle.fst_lts.specs.Step.{step}
use Rattle.fst_lts.specs.Moves.{Moves, sends, receives, closes, waits, selects, offers, first, ends, second, unfolds, variables}
use Rattle.fst_lts.specs.Equal as equal
use Rattle.fst_lts.specs.Equal.{IsEqual}
use Rattle.fst_lts.proofs.Laws.{steps_are_moves}
use Rattle.fst_equiv.specs.Comparison.{is_part}

-- the parts of a well-formed function are well formed
pub function_parts : (vars : List Kind) (u : Use) (s r : Tree) (k : Kind) → IsWellFormed vars (arrow u s r) k →
    ((i : Kind) × IsWellFormed vars s i) × ((j : Kind) × IsWellFormed vars r j)
function_parts vars u s r k w = (
  (w.kinded.0.0, record { kinded = w.kinded.0.1; contractive = w.contractive.0; scoped = w.scoped.0; ordered = w.ordered.0 }),
  (w.kinded.1.0, record { kinded = w.kinded.1.1; contractive = w.contractive.1; scoped = w.scoped.1; ordered = w.ordered.1 }),
)

-- so are those of a pair
pub pair_parts : (vars : List Kind) (s r : Tree) (k : Kind) → IsWellFormed vars (pair s r) k →
    ((i : Kind) × IsWellFormed vars s i) × ((j : Kind) × IsWellFormed vars r j)
pair_parts vars s r k w = (
  (w.kinded.0, record { kinded = w.kinded.2; contractive = w.contractive.0; scoped = w.scoped.0; ordered = w.ordered.0 }),
  (w.kinded.1, record { kinded = w.kinded.3; contractive = w.contractive.1; scoped = w.scoped.1; ordered = w.ordered.1 }),
)

-- a variable whose values need not be channels
record IsTopVariable (vars : List Kind) (s : Tree) : Type 0 where
  number : ℕ
  is : s ≡ var number
  uses : Use
  kind : slice_get vars number ≡ Some (top uses)

-- a kind with the prekind of types of any values, as such a kind
top_of : (k : Kind) → k.prekind ≡ Top → k ≡ top k.uses
top_of k e = λ i. record { prekind = e i; uses = k.uses }

-- a well-formed type of a session kind is a session type
session_by : (vars : List Kind) (s : Tree) (k : Kind) (u : Use) → k ≡ session u → IsWellFormed vars s k → IsSession vars s
session_by vars s k u e w = (u, subst (λ j. IsWellFormed vars s j) e w)

-- a well-formed part is a session type, or a variable whose values need not be channels
part_sorts : (vars : List Kind) (s : Tree) (k : Kind) → is_part s ≡ true → IsWellFormed vars s k → IsSession vars s ⊎
    IsTopVariable vars s
part_sorts vars skip k p w = inl (session_by vars skip k Many w.kinded w)
part_sorts vars (send b) k p w = inl (session_by vars (send b) k Once w.kinded w)
part_sorts vars (receive b) k p w = inl (session_by vars (receive b) k Once w.kinded w)
part_sorts vars close k p w = inl (session_by vars close k Once w.kinded w)
part_sorts vars wait k p w = inl (session_by vars wait k Once w.kinded w)
part_sorts vars (select bs) k p w = inl (session_by vars (select bs) k Once w.kinded.1 w)
part_sorts vars (offer bs) k p w = inl (session_by vars (offer bs) k Once w.kinded.1 w)
part_sorts vars (seq s r) k p w = inl (session_by vars (seq s r) k (join w.kinded.0 w.kinded.1) w.kinded.4 w)
part_sorts vars (rec s) k p w = inl (session_by vars (rec s) k k.uses (session_of k w.kinded.1) w)
part_sorts vars (back n) k p w = inl (session_by vars (back n) k Many w.kinded w)
part_sorts vars (var n) k p w = pick k.prekind refl
  where
    pick : (q : Prekind) → k.prekind ≡ q → IsSession vars (var n) ⊎ IsTopVariable vars (var n)
    pick Session e = inl (session_by vars (var n) k k.uses (session_of k e) w)
    pick Top e = inr (record { number = n; is = refl; uses = k.uses; kind = w.kinded ∙ ap Some (top_of k e) })
part_sorts vars (plain b) k p w = absurd (cc p)
part_sorts vars (arrow u s r) k p w = absurd (cc p)
part_sorts vars (pair s r) k p w = absurd (cc p)
part_sorts vars (named n) k p w = absurd (cc p)

-- so many variables, each of the kind 1S
abbrev once_each : ℕ → List Kind
once_each zero = []
once_each (suc n) = session Once ∷ once_each n

last_of : (n : ℕ) → slice_get (once_each (suc n)) n ≡ Some (session Once)
last_of zero = refl
last_of (suc n) = last_of n

-- a well-formed part is a session type over some list of kinds
pub part_session : (vars : List Kind) (s : Tree) (k : Kind) → is_part s ≡ true → IsWellFormed vars s k →
    (others : List Kind) × IsSession others s
part_session vars s k p w = elim (part_sorts vars s k p w) [
  | inl h ↦ (vars, h)
  | inr v ↦
      let vars = once_each (suc v.number) in (
        vars,
        (
          Once,
          subst (λ t. IsWellFormed vars t (session Once)) (sym v.is)
              (record { kinded = last_of v.number; contractive = tt; scoped = tt; ordered = tt }),
        ),
      )
]

-- a session type moves only by variables that have session kinds
moved_variable : (vars : List Kind) {s t : Tree} {a : Label} → Moves s a t → (k : ℕ) → a ≡ Var k →
    (u : Use) → HasKind vars s (session u) → (v : Use) × (slice_get vars k ≡ Some (session v))
moved_variable vars sends k e u h = absurd (cc e)
moved_variable vars receives k e u h = absurd (cc e)
moved_variable vars closes k e u h = absurd (cc e)
moved_variable vars waits k e u h = absurd (cc e)
moved_variable vars (selects b) k e u h = absurd (cc e)
moved_variable vars (offers b) k e u h = absurd (cc e)
moved_variable vars (first b m go) k e u h = moved_variable vars m k e h.0 h.2
moved_variable vars (ends b m over) k e u h = moved_variable vars m k e h.0 h.2
moved_variable vars (second b m) k e u h = moved_variable vars m k e h.1 h.3
moved_variable vars (unfolds {s} m) k e u h = moved_variable vars m k e u (unfolding_of_kind vars s (session u) h)
moved_variable vars (variables {k = j}) k e u h =
    let is : j ≡ k = cc in
    (u, subst (λ n. slice_get vars n ≡ Some (session u)) is h)

-- where one type moves by a label, the other does too
there_too : (o p : Option Tree) (t : Tree) → o ≡ Some t → BothOrNeither (AgreeTo step step zero) o p → (u : Tree) × (p ≡ Some u)
there_too None p t e h = absurd (cc e)
there_too (Some x) None t e h = absurd h
there_too (Some x) (Some y) t e h = (y, refl)

-- what agrees with a variable moves by it
moves_too : (n : ℕ) (r : Tree) → Agree step step (var n) r → (t : Tree) × (step r (Var n) ≡ Some t)
moves_too n r h = there_too (step (var n) (Var n)) (step r (Var n)) skip (rw (same_label-itself (Var n)) refl) (h 1 (Var n))

-- no variable whose values need not be channels agrees with a session type
no_session : (vars : List Kind) (s r : Tree) → IsTopVariable vars s → IsSession vars r → Agree step step s r → ⊥
no_session vars s r v w h =
    let moved = moves_too v.number r (subst (λ t. Agree step step t r) v.is h) in
    let by_rule = (steps_are_moves r w.1.scoped w.1.contractive (Var v.number) moved.0).0 moved.1 in
    let found = moved_variable vars by_rule v.number refl w.0 w.1.kinded in
    let kinds : session found.0 ≡ top v.uses = cc (found.1, v.kind) in
    not_top found.0 v.uses kinds

-- variables that agree are one
one_variable : (n m : ℕ) → Agree step step (var n) (var m) → n ≡ m
one_variable n m h =
    let moved = moves_too n (var m) h in
    by_test (same_label (Var n) (Var m)) refl moved.1
  where
    by_test : (c : Bool) → same_label (Var n) (Var m) ≡ c →
        (if c then Some skip else None) ≡ Some (moves_too n (var m) h).0 → n ≡ m
    by_test true e is = let labels = same_label-same (Var n) (Var m) e in cc
    by_test false e is = absurd (cc is)

-- well-formed parts that agree are equal
pub parts_equal : (vars : List Kind) (s r : Tree) (j k : Kind) → is_part s ≡ true → is_part r ≡ true → IsWellFormed vars s j →
    IsWellFormed vars r k → Agree step step s r → IsEqual vars s r
parts_equal vars s r j k p q ws wr h = pick (part_sorts vars s j p ws) (part_sorts vars r k q wr)
  where
    pick : IsSession vars s ⊎ IsTopVariable vars s → IsSession vars r ⊎ IsTopVariable vars r → IsEqual vars s r
    pick (inl a) (inl b) = equal.sessions a b h
    pick (inl a) (inr v) = absurd (no_session vars r s v a (λ n. agrees_back step step n s r (h n)))
    pick (inr v) (inl b) = absurd (no_session vars s r v b h)
    pick (inr v) (inr w) =
        let one = one_variable v.number w.number (subst
        (λ t. Agree step step (var v.number) t) w.is (subst (λ t. Agree step step t r) v.is h)) in
        subst (λ t. IsEqual vars s t) (ap var one ∙ sym w.is)
        (subst (λ t. IsEqual vars t (var v.number)) (sym v.is) equal.variables)
