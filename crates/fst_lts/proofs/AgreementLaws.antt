-- Agreement is an equivalence, and a type in front of or behind both sides keeps it.
use Rattle.std.proofs.Common.{◌≡◌, ◌∙◌, ◌↔◌, ℕ, zero, suc, List, [], ◌∷◌, Bool, true, false, Option, Some, None, refl, sym, ap, subst, arith}
use Rattle.std.specs.Prelude.{IsSome, IsTrue, Contains, option_map, if◌then◌else◌}
use Rattle.fst_types.specs.Tree.{Tree, skip, seq}
use Rattle.fst_types.specs.declared.kind.Kind.{Kind}
use Rattle.fst_types.specs.declared.label.Label.{Label}
use Rattle.fst_types.proofs.Laws.{substitute_nothing}
use Rattle.fst_kinds.specs.WellFormed.{IsSession}
use Rattle.fst_lts.specs.Step.{step, labels, terminated, is_end, followed}
use Rattle.fst_base.specs.Agreement.{AgreeTo, BothOrNeither}
use Rattle.fst_lts.proofs.LabelLaws.{labels_are_moves}
use Rattle.fst_lts.proofs.ResidualLaws.{step_session, terminated_exactly}
use Rattle.fst_base.proofs.AgreementLaws.{same_related, agrees_itself, agrees_back, agrees_less, related_some}
use Rattle.fst_base.proofs.Bools.{same_bool}

-- the step of a sequence whose first part goes on or is over
abbrev pub after_first : Label → Tree → Bool → Option Tree → Option Tree → Option Tree
after_first a s over first second = if over then second else option_map (followed a s) first

-- the step of a sequence
pub first_then : (s r : Tree) (a : Label) → step (seq s r) a ≡ after_first a r (terminated s) (step s a) (step r a)
first_then s r a = ap (λ z. if terminated s then step r a else option_map (followed a z) (step s a)) (substitute_nothing r)

-- behind an end both sides agree, and elsewhere where the sequences do
behind_agrees : (n : ℕ) (a : Label) (s r x y : Tree) → AgreeTo step step n (seq s x) (seq r y) →
    AgreeTo step step n (followed a x s) (followed a y r)
behind_agrees n a s r x y h = pick (is_end a)
  where
    pick : (c : Bool) → AgreeTo step step n (if c then skip else seq s x) (if c then skip else seq r y)
    pick true = agrees_itself step n skip
    pick false = h

-- both sides of a step of two sequences
sequences_agree : (n : ℕ) (a : Label) (x y : Tree) (over : Bool) (o p q u : Option Tree) →
    (over ≡ false → BothOrNeither (λ s r. AgreeTo step step n (seq s x) (seq r y)) o p) →
    (over ≡ true → BothOrNeither (AgreeTo step step n) q u) →
    BothOrNeither (AgreeTo step step n) (after_first a x over o q) (after_first a y over p u)
sequences_agree n a x y true o p q u first second = second refl
sequences_agree n a x y false None None q u first second = tt
sequences_agree n a x y false None (Some r) q u first second = absurd (first refl)
sequences_agree n a x y false (Some s) None q u first second = absurd (first refl)
sequences_agree n a x y false (Some s) (Some r) q u first second = behind_agrees n a s r x y (first refl)

-- two steps of sequences, where both first parts are over or neither is
step_sequences : (n : ℕ) (s r x y : Tree) (a : Label) → terminated s ≡ terminated r →
    (terminated s ≡ false → BothOrNeither (λ t u. AgreeTo step step n (seq t x) (seq u y)) (step s a) (step r a)) →
    (terminated s ≡ true → BothOrNeither (AgreeTo step step n) (step x a) (step y a)) →
    BothOrNeither (AgreeTo step step n) (step (seq s x) a) (step (seq r y) a)
step_sequences n s r x y a same first second =
    let left : after_first a x (terminated s) (step s a) (step x a) ≡ step (seq s x) a = sym (first_then s x a) in
    let right : after_first a y (terminated s) (step r a) (step y a) ≡ step (seq r y) a =
    ap (λ over. after_first a y over (step r a) (step y a)) same ∙ sym (first_then r y a) in
    subst (λ o. BothOrNeither (AgreeTo step step n) o (step (seq r y) a)) left
    (subst (λ o. BothOrNeither (AgreeTo step step n) (after_first a x (terminated s) (step s a) (step x a)) o) right
    (sequences_agree n a x y (terminated s) (step s a) (step r a) (step x a) (step y a) first second))

-- a type in front of both sides
pub agree_in_front : (n : ℕ) (t s r : Tree) → AgreeTo step step n s r → AgreeTo step step n (seq t s) (seq t r)
agree_in_front zero t s r h = tt
agree_in_front (suc n) t s r h = λ a.
    step_sequences n t t s r a refl
    (λ over. same_related (λ x y. AgreeTo step step n (seq x s) (seq y r))
    (λ x. agree_in_front n x s r (agrees_less step step n s r h)) (step t a))
    (λ over. h a)

-- the type is terminated exactly where it has no labels
abbrev pub Moving : Tree → Type 0
Moving s = IsTrue (terminated s) ↔ (labels s ≡ [])

-- a type without labels moves by none
pub no_step : (s : Tree) (a : Label) → labels s ≡ [] → IsSome (step s a) → ⊥
no_step s a none h =
    let found : Contains [] a = subst (λ ls. Contains ls a) none ((labels_are_moves s a).1 h) in
    absurd (omega (arith, found.1))

label_there : (s : Tree) (ls : List Label) → labels s ≡ ls → ((a : Label) → IsSome (step s a) → ⊥) → ls ≡ []
label_there s [] is h = refl
label_there s (a ∷ ls) is h =
    absurd (h a ((labels_are_moves s a).0 (subst (λ k. Contains k a) (sym is) (0, omega arith, refl))))

unmatched : (n : ℕ) (o p : Option Tree) → BothOrNeither (AgreeTo step step n) o p → IsSome p → IsSome o
unmatched n None None b h = absurd (cc h)
unmatched n None (Some y) b h = absurd b
unmatched n (Some x) p b h = refl

over_too : (n : ℕ) (s r : Tree) → Moving s → Moving r → AgreeTo step step (suc n) s r → terminated s ≡ true → terminated r ≡ true
over_too n s r ms mr h over =
    mr.1 (label_there r (labels r) refl (λ a there. no_step s a (ms.0 over) (unmatched n (step s a) (step r a) (h a) there)))

-- types that agree to a depth over 0 are terminated alike
pub over_alike : (n : ℕ) (s r : Tree) → Moving s → Moving r → AgreeTo step step (suc n) s r → terminated s ≡ terminated r
over_alike n s r ms mr h =
    same_bool (terminated s) (terminated r) (over_too n s r ms mr h) (over_too n r s mr ms (agrees_back step step (suc n) s r h))

-- a type behind both sides
pub agree_behind : (n : ℕ) (vars : List Kind) (s r t : Tree) → IsSession vars s → IsSession vars r → AgreeTo step step n s r →
    AgreeTo step step n (seq s t) (seq r t)
agree_behind zero vars s r t ws wr h = tt
agree_behind (suc n) vars s r t ws wr h = λ a.
    step_sequences n s r t t a (over_alike n s r (terminated_exactly vars s ws) (terminated_exactly vars r wr) h)
    (λ on. related_some (AgreeTo step step n) (λ x y. AgreeTo step step n (seq x t) (seq y t)) (IsSession vars) (IsSession vars)
    (λ x y wx wy. agree_behind n vars x y t wx wy) (step s a) (step r a) (step_session vars s a ws) (step_session vars r a wr)
    (h a))
    (λ over. same_related (AgreeTo step step n) (agrees_itself step n) (step t a))
