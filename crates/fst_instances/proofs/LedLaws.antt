-- What a type moves by that moves by a variable, how often, and what its instance then does.
use Rattle.std.proofs.Common.{◌≡◌, ◌∙◌, ◌≤◌, ℕ, zero, suc, List, [], ◌∷◌, length, map, Bool, true, false, Option, Some, None, refl, sym, ap, subst, arith}
use Rattle.std.specs.Prelude.{option_map, option_and_then, if◌then◌else◌, IsSome, is_some}
use Rattle.fst_types.specs.Tree.{Tree, skip, send, receive, close, wait, select, offer, seq, rec, back, var, plain, arrow, pair, named}
use Rattle.fst_types.specs.declared.kind.Kind.{Kind}
use Rattle.fst_types.specs.declared.label.Label.{Label}
use Rattle.fst_types.specs.declared.label.Label.TheVariants.{Var}
use Rattle.fst_types.specs.Order.{same_label}
use Rattle.fst_types.specs.Substitution.{substitute}
use Rattle.fst_types.specs.Instance.{argument, instantiated}
use Rattle.fst_types.proofs.Laws.{same_label-same}
use Rattle.fst_kinds.specs.WellFormed.{IsSession, IsInstantiation}
use Rattle.fst_kinds.proofs.Laws.{put_scoped}
use Rattle.fst_lts.specs.Step.{terminated, followed, step_in, step}
use Rattle.fst_base.specs.Agreement.{residual, Performs, AgreeTo, BothOrNeither, Agree}
use Rattle.fst_instances.specs.Instance.{IsUnled, FewVariables}
use Rattle.fst_base.proofs.AgreementLaws.{agrees_through}
use Rattle.fst_base.proofs.Options.{if_there, unmapped_there}
use Rattle.fst_lts.proofs.Laws.{seq_step}
use Rattle.fst_instances.proofs.SequenceLaws.{after_first, same_steps, over_step}
use Rattle.fst_instances.proofs.InstanceMoves.{leading, leading_moves, unled, terminated_kept, step_in_instance, step_led}
use Rattle.fst_instances.proofs.VariableRuns.{Fades, fades, session_fades}

-- a type that moves by a variable moves by nothing else
led_alone : (env : List (Option Tree)) (s : Tree) (k : ℕ) (a : Label) → leading s ≡ Some k → IsSome (step_in env s a) → a ≡ Var k
led_alone env skip k a e h = absurd (cc e)
led_alone env (send b) k a e h = absurd (cc e)
led_alone env (receive b) k a e h = absurd (cc e)
led_alone env close k a e h = absurd (cc e)
led_alone env wait k a e h = absurd (cc e)
led_alone env (select bs) k a e h = absurd (cc e)
led_alone env (offer bs) k a e h = absurd (cc e)
led_alone env (seq s r) k a e h = pick (led_alone env s k a) (led_alone env r k a) (terminated s) e h
  where
    pick : (leading s ≡ Some k → IsSome (step_in env s a) → a ≡ Var k) →
        (leading r ≡ Some k → IsSome (step_in env r a) → a ≡ Var k) → (c : Bool) → (if c then leading r else leading s) ≡ Some k →
        IsSome (if c then step_in env r a else option_map (followed a (substitute env r)) (step_in env s a)) → a ≡ Var k
    pick front behind true e h = behind e h
    pick front behind false e h = front e (unmapped_there (followed a (substitute env r)) (step_in env s a) h)
led_alone env (rec s) k a e h = led_alone (Some (substitute env (rec s)) ∷ env) s k a e h
led_alone env (back j) k a e h = absurd (cc e)
led_alone env (var j) k a e h =
    let is : j ≡ k = cc in
    same_label-same a (Var j) (if_there skip (same_label a (Var j)) h) ∙ ap Var is
led_alone env (plain b) k a e h = absurd (cc e)
led_alone env (arrow u s r) k a e h = absurd (cc e)
led_alone env (pair s r) k a e h = absurd (cc e)
led_alone env (named j) k a e h = absurd (cc e)

there : {X : Type 0} (o : Option X) (x : X) → o ≡ Some x → IsSome o
there o x e = subst (λ p. IsSome p) (sym e) refl

-- the variable by which a type moves leads it
moves_leading : (s t : Tree) (k : ℕ) → step s (Var k) ≡ Some t → leading s ≡ Some k
moves_leading s t k e = pick (leading s) refl
  where
    pick : (o : Option ℕ) → leading s ≡ o → leading s ≡ Some k
    pick None is = absurd (cc (sym (unled [] s k is) ∙ e))
    pick (Some j) is =
        let same : Var k ≡ Var j = led_alone [] s j (Var k) is (there (step s (Var k)) t e) in
        let number : j ≡ k = cc in
        is ∙ ap Some number

-- a type that moves by a variable moves by nothing else
pub one_variable : (s t : Tree) (k : ℕ) → step s (Var k) ≡ Some t → (a : Label) → IsSome (step s a) → a ≡ Var k
one_variable s t k e a h = led_alone [] s k a (moves_leading s t k e) h

-- no variable leads a type that moves by none
unled_leading : (s : Tree) → IsUnled s → leading s ≡ None
unled_leading s h = pick (leading s) refl
  where
    pick : (o : Option ℕ) → leading s ≡ o → leading s ≡ None
    pick None is = is
    pick (Some k) is =
        let moved = leading_moves [] s k is in
        absurd (cc (sym (h k) ∙ moved.1))

-- where a type moves by no variable, its instance moves as it does
pub unled_steps : (outer vars : List Kind) (args : List Tree) → IsInstantiation outer vars args → (s : Tree) → IsUnled s →
    (a : Label) → step (instantiated args s) a ≡ option_map (instantiated args) (step s a)
unled_steps outer vars args i s h a = step_in_instance args (put_scoped outer vars args i) [] s a (unled_leading s h)

-- a type that moves by another label moves by no variable
other_label : (s t : Tree) (a : Label) → ((k : ℕ) → a ≡ Var k → ⊥) → step s a ≡ Some t → IsUnled s
other_label s t a h e k = pick (step s (Var k)) refl
  where
    pick : (o : Option Tree) → step s (Var k) ≡ o → step s (Var k) ≡ None
    pick None is = is
    pick (Some u) is = absurd (h k (one_variable s u k is a (there (step s a) t e)))

-- a move by another label than a variable is one of the instance
pub instance_moves : (outer vars : List Kind) (args : List Tree) → IsInstantiation outer vars args → (s t : Tree) (a : Label) →
    ((k : ℕ) → a ≡ Var k → ⊥) → step s a ≡ Some t →
    step (instantiated args s) a ≡ Some (instantiated args t)
instance_moves outer vars args i s t a h e = unled_steps outer vars args i s (other_label s t a h e) a
    ∙ ap (option_map (instantiated args)) e

-- where a type moves by no variable, its instance is terminated exactly where it is
pub unled_ends : (args : List Tree) (s : Tree) → IsUnled s → terminated (instantiated args s) ≡ terminated s
unled_ends args s h = terminated_kept args s (unled_leading s h)

-- the runs of variables of a type that comes to an end of them
few : {s : Tree} → Fades s → FewVariables s
few {s} (fades f) = pick (λ k t e. few (f k t e)) (leading s) refl
  where
    none_left : leading s ≡ None → (ks : List ℕ) → Performs step s (map Var ks) → length ks ≤ 0
    none_left is [] h = omega arith
    none_left is (k ∷ ks) h = absurd (cc (sym h ∙ ap
        (λ o. is_some (option_and_then (λ y. residual step y (map Var ks)) o)) (unled [] s k is)))

    one_more : (k : ℕ) (t : Tree) (m : ℕ) → step s (Var k) ≡ Some t →
        ((ks : List ℕ) → Performs step t (map Var ks) → length ks ≤ m) →
        (ks : List ℕ) → Performs step s (map Var ks) → length ks ≤ suc m
    one_more k t m e rest [] h = omega arith
    one_more k t m e rest (j ∷ ks) h = after (step s (Var j)) refl h
      where
        after : (o : Option Tree) → step s (Var j) ≡ o → IsSome (option_and_then (λ y. residual step y (map Var ks)) o) →
            suc (length ks) ≤ suc m
        after None is h = absurd (cc h)
        after (Some u) is h =
            let same : Var j ≡ Var k = one_variable s t k e (Var j) (there (step s (Var j)) u is) in
            let left : u ≡ t = cc in
            let le : length ks ≤ m = rest ks (subst (λ y. Performs step y (map Var ks)) left h) in
            omega arith

    pick : ((k : ℕ) (t : Tree) → step s (Var k) ≡ Some t → FewVariables t) → (o : Option ℕ) → leading s ≡ o → FewVariables s
    pick next None is = (0, none_left is)
    pick next (Some k) is =
        let moved = leading_moves [] s k is in
        let found = next k moved.0 moved.1 in
        (suc found.0, one_more k moved.0 found.0 moved.1 found.1)

-- how often a session type moves by variables is bounded
pub session_few : (vars : List Kind) (s : Tree) → IsSession vars s → FewVariables s
session_few vars s h = few (session_fades vars s h)

module _ (outer vars : List Kind) (args : List Tree) (i : IsInstantiation outer vars args) where
  -- where the argument is terminated, the instance goes on as that of what is left
  pub led_over : (s t : Tree) (k : ℕ) → IsSession vars s → step s (Var k) ≡ Some t → terminated (argument args k) ≡ true →
      Agree step step (instantiated args s) (instantiated args t)
  led_over s t k w e over n =
      agrees_through step step step n (instantiated args s) (seq (argument args k) (instantiated args t)) (instantiated args t)
      (step_led outer vars args i s t k w e n)
      (same_steps (seq (argument args k) (instantiated args t)) (instantiated args t)
      (λ a. over_step (argument args k) (instantiated args t) a over) n)

  -- and otherwise it moves as the argument, followed by the instance of what is left
  pub led_ahead : (s t : Tree) (k : ℕ) → IsSession vars s → step s (Var k) ≡ Some t → terminated (argument args k) ≡ false →
      (a : Label) →
      BothOrNeither (λ x y. Agree step step x (followed a (instantiated args t) y)) (step (instantiated args s) a)
      (step (argument args k) a)
  led_ahead s t k w e on a =
      pick (step (instantiated args s) a) (step (argument args k) a)
      (λ n. subst (λ o. BothOrNeither (AgreeTo step step n) (step (instantiated args s) a) o)
      (seq_step (argument args k) (instantiated args t) a ∙ ap
      (λ c. after_first a (instantiated args t) c (step (argument args k) a) (step (instantiated args t) a)) on)
      (step_led outer vars args i s t k w e (suc n) a))
    where
      pick : (o p : Option Tree) → ((n : ℕ) → BothOrNeither (AgreeTo step step n) o
          (option_map (followed a (instantiated args t)) p)) → BothOrNeither
          (λ x y. Agree step step x (followed a (instantiated args t) y)) o p
      pick None None h = tt
      pick None (Some y) h = h zero
      pick (Some x) None h = h zero
      pick (Some x) (Some y) h = h
