-- Two types, one behind the other: `;` associates, and Skip behind a type changes nothing.
use Rattle.std.proofs.Common.{◌≡◌, ◌∙◌, ℕ, zero, suc, Bool, true, false, Option, Some, None, refl, sym, ap, subst}
use Rattle.std.specs.Prelude.{option_map, if◌then◌else◌, ◌&&◌, IsSome}
use Rattle.fst_types.specs.Tree.{Tree, skip, seq}
use Rattle.fst_types.specs.declared.label.Label.{Label}
use Rattle.fst_base.specs.Agreement.{AgreeTo, BothOrNeither, Agree}
use Rattle.fst_base.proofs.AgreementLaws.{same_related, agrees_itself}
use Rattle.fst_lts.specs.Step.{terminated, is_end, followed, step}
use Rattle.fst_lts.proofs.Laws.{seq_step, no_step, ended_skip}

-- the step of a sequence whose first part goes on or is over
abbrev pub after_first : Label → Tree → Bool → Option Tree → Option Tree → Option Tree
after_first a r over first second = if over then second else option_map (followed a r) first

-- types with the same steps agree
pub same_steps : (x y : Tree) → ((a : Label) → step x a ≡ step y a) → Agree step step x y
same_steps x y h zero = tt
same_steps x y h (suc n) = λ a.
    subst (λ o. BothOrNeither (AgreeTo step step n) (step x a) o) (h a)
    (same_related (AgreeTo step step n) (agrees_itself step n) (step x a))

-- what stands behind a terminated type moves
pub over_step : (s r : Tree) (a : Label) → terminated s ≡ true → step (seq s r) a ≡ step r a
over_step s r a e = seq_step s r a ∙ ap (λ c. after_first a r c (step s a) (step r a)) e

related_at : {T U : Type 0} (R : T → U → Type 0) (o o' : Option T) (p p' : Option U) → o' ≡ o → p' ≡ p → BothOrNeither R o' p' →
    BothOrNeither R o p
related_at R o o' p p' e f b = subst (λ q. BothOrNeither R o q) f (subst (λ q. BothOrNeither R q p') e b)

-- `;` associates
pub seq_associates : (n : ℕ) (x y z : Tree) → AgreeTo step step n (seq (seq x y) z) (seq x (seq y z))
seq_associates zero x y z = tt
seq_associates (suc n) x y z = λ a.
    related_at (AgreeTo step step n) _ _ _ _
    (sym (seq_step (seq x y) z a ∙ ap (λ o. after_first a z (terminated x && terminated y) o (step z a)) (seq_step x y a)))
    (sym (seq_step x (seq y z) a ∙ ap (λ o. after_first a (seq y z) (terminated x) (step x a) o) (seq_step y z a)))
    (pick (λ u. seq_associates n u y z) a (terminated x) (terminated y) (step x a) (step y a) (step z a))
  where
    pick : ((u : Tree) → AgreeTo step step n (seq (seq u y) z) (seq u (seq y z))) →
        (a : Label) (c d : Bool) (o p q : Option Tree) →
        BothOrNeither (AgreeTo step step n) (after_first a z (c && d) (after_first a y c o p) q)
        (after_first a (seq y z) c o (after_first a z d p q))
    pick next a true d o p q = same_related (AgreeTo step step n) (agrees_itself step n) (after_first a z d p q)
    pick next a false d None p q = tt
    pick next a false d (Some u) p q = ending (is_end a)
      where
        ending : (b : Bool) → AgreeTo step step n (if b then skip else seq (if b then skip else seq u y) z)
            (if b then skip else seq u (seq y z))
        ending true = agrees_itself step n skip
        ending false = next u

-- Skip behind a type changes nothing
pub seq_skip : (n : ℕ) (x : Tree) → AgreeTo step step n x (seq x skip)
seq_skip zero x = tt
seq_skip (suc n) x = λ a.
    related_at (AgreeTo step step n) _ _ _ _ refl (sym (seq_step x skip a))
    (pick (seq_skip n) a (terminated x) refl (step x a) refl)
  where
    ending : (a : Label) (u : Tree) → step x a ≡ Some u → AgreeTo step step n u (seq u skip) →
        (b : Bool) → is_end a ≡ b → AgreeTo step step n u (if b then skip else seq u skip)
    ending a u e h true is = subst (λ z. AgreeTo step step n z skip) (sym (ended_skip x u a is e)) (agrees_itself step n skip)
    ending a u e h false is = h

    pick : ((u : Tree) → AgreeTo step step n u (seq u skip)) → (a : Label) (c : Bool) → terminated x ≡ c →
        (o : Option Tree) → step x a ≡ o → BothOrNeither (AgreeTo step step n) o (after_first a skip c o None)
    pick next a true is None e = tt
    pick next a true is (Some u) e = absurd (no_step x is a (subst (λ o. IsSome o) (sym e) refl))
    pick next a false is None e = tt
    pick next a false is (Some u) e = ending a u e (next u) (is_end a) refl
