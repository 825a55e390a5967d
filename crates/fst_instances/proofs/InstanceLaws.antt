-- Instances of session types that agree at every depth agree at every depth.
use Rattle.std.proofs.Common.{◌≡◌, ◌∙◌, ℕ, zero, suc, List, [], Option, Some, None, refl, sym, subst}
use Rattle.std.specs.Prelude.{option_map, IfSome}
use Rattle.fst_types.specs.Tree.{Tree, seq}
use Rattle.fst_types.specs.declared.kind.Kind.{Kind}
use Rattle.fst_types.specs.declared.label.Label.TheVariants.{Var}
use Rattle.fst_types.specs.Instance.{argument, instantiated}
use Rattle.fst_kinds.specs.WellFormed.{IsSession, IsInstantiation}
use Rattle.fst_kinds.proofs.Laws.{put_scoped}
use Rattle.fst_lts.specs.Step.{step}
use Rattle.fst_base.specs.Agreement.{AgreeTo, BothOrNeither, Agree}
use Rattle.fst_base.proofs.AgreementLaws.{agrees_back, agrees_through}
use Rattle.fst_lts.proofs.Laws.{step_session, agree_in_front}
use Rattle.fst_instances.specs.Instance.{InstanceLawOver}
use Rattle.fst_instances.proofs.SessionLaws.{session_after}
use Rattle.fst_instances.proofs.InstanceMoves.{leading, leading_moves, unled, step_in_instance, step_led}
use Rattle.fst_instances.proofs.VariableRuns.{Fades, fades, session_fades}

-- of two types that agree, both move by a label or neither does, and what they leave agrees
pub both_move : (o p : Option Tree) → ((n : ℕ) → BothOrNeither (AgreeTo step step n) o p) → (t : Tree) → o ≡ Some t → (u : Tree) ×
    (p ≡ Some u) × Agree step step t u
both_move None p h t e = absurd (cc e)
both_move (Some x) None h t e = absurd (h zero)
both_move (Some x) (Some y) h t e =
    let is : x ≡ t = cc in
    (y, refl, λ n. subst (λ z. AgreeTo step step n z y) is (h n))

-- if no variable leads one of two types that agree, none leads the other
pub unled_too : (s r : Tree) → Agree step step s r → leading s ≡ None → leading r ≡ None
unled_too s r h is = pick (leading r) refl
  where
    pick : (o : Option ℕ) → leading r ≡ o → leading r ≡ None
    pick None e = e
    pick (Some k) e =
        let moved = leading_moves [] r k e in
        let found = both_move (step r (Var k)) (step s (Var k))
        (λ n. agrees_back step step (suc n) s r (h (suc n)) (Var k)) moved.0 moved.1 in
        absurd (cc (sym (unled [] s k is) ∙ found.1))

module _ (outer vars : List Kind) (args : List Tree) (c : IsInstantiation outer vars args) where
  -- the instances agree one deeper, if instances of what agrees do to the depth
  one_deeper : (n : ℕ) → ((s r : Tree) → IsSession vars s → IsSession vars r → Agree step step s r →
      AgreeTo step step n (instantiated args s) (instantiated args r)) →
      {s : Tree} (r : Tree) → Fades s → IsSession vars s → IsSession vars r → Agree step step s r →
      AgreeTo step step (suc n) (instantiated args s) (instantiated args r)
  one_deeper n below {s} r (fades f) ws wr h = pick (λ k t u e wt wu g. one_deeper n below u (f k t e) wt wu g) (leading s) refl
    where
      related : (o p : Option Tree) → IfSome o (IsSession vars) → IfSome p (IsSession vars) →
          ((m : ℕ) → BothOrNeither (AgreeTo step step m) o p) →
          BothOrNeither (AgreeTo step step n) (option_map (instantiated args) o) (option_map (instantiated args) p)
      related None None i j b = tt
      related None (Some y) i j b = absurd (b zero)
      related (Some x) None i j b = absurd (b zero)
      related (Some x) (Some y) i j b = below x y i j b

      pick : ((k : ℕ) (t u : Tree) → step s (Var k) ≡ Some t → IsSession vars t → IsSession vars u → Agree step step t u →
          AgreeTo step step (suc n) (instantiated args t) (instantiated args u)) →
          (o : Option ℕ) → leading s ≡ o → AgreeTo step step (suc n) (instantiated args s) (instantiated args r)
      pick next (Some k) is =
          let moved = leading_moves [] s k is in
          let t = moved.0 in
          let found = both_move (step s (Var k)) (step r (Var k)) (λ m. h (suc m) (Var k)) t moved.1 in
          let u = found.0 in
          let inner = next k t u moved.1 (session_after vars s t (Var k) ws moved.1)
          (session_after vars r u (Var k) wr found.1) found.2 in
          let left = seq (argument args k) (instantiated args t) in
          let right = seq (argument args k) (instantiated args u) in
          agrees_through step step step (suc n) (instantiated args s) left (instantiated args r)
          (step_led outer vars args c s t k ws moved.1 (suc n))
          (agrees_through step step step (suc n) left right (instantiated args r)
          (agree_in_front (suc n) (argument args k) (instantiated args t) (instantiated args u) inner)
          (agrees_back step step (suc n) (instantiated args r) right (step_led outer vars args c r u k wr found.1 (suc n))))
      pick next None is = λ a.
          let ok = put_scoped outer vars args c in
          let left = step_in_instance args ok [] s a is in
          let right = step_in_instance args ok [] r a (unled_too s r h is) in
          subst (λ o. BothOrNeither (AgreeTo step step n) o (step (instantiated args r) a)) (sym left)
          (subst (λ o. BothOrNeither (AgreeTo step step n) (option_map (instantiated args) (step s a)) o) (sym right)
          (related (step s a) (step r a) (step_session vars s a ws) (step_session vars r a wr) (λ m. h (suc m) a)))

  -- instances of session types that agree at every depth do
  pub instances_agree : (n : ℕ) (s r : Tree) → IsSession vars s → IsSession vars r → Agree step step s r →
      AgreeTo step step n (instantiated args s) (instantiated args r)
  instances_agree zero s r ws wr h = tt
  instances_agree (suc n) s r ws wr h = one_deeper n (instances_agree n) r (session_fades vars s ws) ws wr h

-- the instances of session types that agree at every depth do, alone and with any one type in front of both
pub instance_law : (outer : List Kind) → InstanceLawOver outer
instance_law outer vars args s r i ws wr h = record {
  alone = λ n. instances_agree outer vars args i n s r ws wr h;
  behind = λ t n. agree_in_front n t (instantiated args s) (instantiated args r)
      (instances_agree outer vars args i n s r ws wr h);
}
