-- How an instance moves: as its type until the type moves by a variable, and then as what was put for the variable.
use Rattle.std.proofs.Common.{◌≡◌, ◌∙◌, ℕ, List, ◌∷◌, Bool, true, false, Option, Some, None, refl, sym, ap, subst}
use Rattle.std.specs.Prelude.{option_map, if◌then◌else◌, ◌&&◌}
use Rattle.std.proofs.lemmas.Bool.{and_parts}
use Rattle.fst_types.specs.Tree.{Tree, skip, send, receive, close, wait, select, offer, seq, rec, back, var, plain, arrow, pair, named, Branches, none, branch}
use Rattle.fst_types.specs.declared.kind.Kind.{Kind}
use Rattle.fst_types.specs.declared.label.Label.{Label}
use Rattle.fst_types.specs.declared.label.Label.TheVariants.{Send, Receive, Select, Offer, Close, Wait, Var}
use Rattle.fst_types.specs.Order.{same_label}
use Rattle.fst_types.specs.Scoped.{IsScoped}
use Rattle.fst_types.specs.Substitution.{substitute, unfolding_of}
use Rattle.fst_types.specs.Instance.{argument, instantiated, instantiated_all, instantiated_env, ArgumentsHave}
use Rattle.fst_types.proofs.Laws.{same_label-itself, instantiated_substitute, instantiated_unfolding_of}
use Rattle.fst_kinds.specs.Kinds.{session}
use Rattle.fst_kinds.specs.WellFormed.{IsSession, IsInstantiation}
use Rattle.fst_kinds.proofs.Laws.{unfolding_of_contractive, put_scoped, instantiated_session}
use Rattle.fst_base.specs.Agreement.{AgreeTo, Agree}
use Rattle.fst_base.proofs.AgreementLaws.{agrees_through}
use Rattle.fst_lts.specs.Step.{terminated, branch_at, is_end, followed, step_in, step}
use Rattle.fst_lts.specs.Moves.{Moves, sends, receives, closes, waits, selects, offers, first, ends, second, unfolds, variables}
use Rattle.fst_lts.proofs.Laws.{steps_are_moves, unfolding_of_step, seq_session, agree_behind}
use Rattle.fst_instances.proofs.SessionLaws.{first_session, second_session, moved_session, unfolding_of_session}
use Rattle.fst_instances.proofs.SequenceLaws.{same_steps, over_step, seq_associates, seq_skip}

-- the variable by which a type moves, if it moves by one
abbrev pub leading : Tree → Option ℕ
leading skip = None
leading (send b) = None
leading (receive b) = None
leading close = None
leading wait = None
leading (select bs) = None
leading (offer bs) = None
leading (seq s r) = if terminated s then leading r else leading s
leading (rec s) = leading s
leading (back k) = None
leading (var k) = Some k
leading (plain b) = None
leading (arrow u s r) = None
leading (pair s r) = None
leading (named k) = None

-- the instance of a terminated type is terminated
pub instantiated_terminated : (args : List Tree) (s : Tree) → terminated s ≡ true → terminated (instantiated args s) ≡ true
instantiated_terminated args skip e = refl
instantiated_terminated args (send b) e = absurd (cc e)
instantiated_terminated args (receive b) e = absurd (cc e)
instantiated_terminated args close e = absurd (cc e)
instantiated_terminated args wait e = absurd (cc e)
instantiated_terminated args (select bs) e = absurd (cc e)
instantiated_terminated args (offer bs) e = absurd (cc e)
instantiated_terminated args (seq s r) e =
    let h = and_parts (terminated s) (terminated r) e in
    λ i. instantiated_terminated args s h.0 i && instantiated_terminated args r h.1 i
instantiated_terminated args (rec s) e = instantiated_terminated args s e
instantiated_terminated args (back k) e = absurd (cc e)
instantiated_terminated args (var k) e = absurd (cc e)
instantiated_terminated args (plain b) e = absurd (cc e)
instantiated_terminated args (arrow u s r) e = absurd (cc e)
instantiated_terminated args (pair s r) e = absurd (cc e)
instantiated_terminated args (named k) e = absurd (cc e)

-- where no variable leads, the instance is terminated exactly where the type is
pub terminated_kept : (args : List Tree) (s : Tree) → leading s ≡ None → terminated (instantiated args s) ≡ terminated s
terminated_kept args skip e = refl
terminated_kept args (send b) e = refl
terminated_kept args (receive b) e = refl
terminated_kept args close e = refl
terminated_kept args wait e = refl
terminated_kept args (select bs) e = refl
terminated_kept args (offer bs) e = refl
terminated_kept args (seq s r) e = pick (terminated_kept args s) (terminated_kept args r) (terminated s) refl e
  where
    pick : (leading s ≡ None → terminated (instantiated args s) ≡ terminated s) →
        (leading r ≡ None → terminated (instantiated args r) ≡ terminated r) → (c : Bool) → terminated s ≡ c →
        (if c then leading r else leading s) ≡ None →
        terminated (instantiated args s) && terminated (instantiated args r) ≡ terminated s && terminated r
    pick front behind true is e = λ i. (instantiated_terminated args s is ∙ sym is) i && behind e i
    pick front behind false is e = ap (λ b. b && terminated (instantiated args r)) (front e ∙ is)
        ∙ sym (ap (λ b. b && terminated r) is)
terminated_kept args (rec s) e = terminated_kept args s e
terminated_kept args (back k) e = refl
terminated_kept args (var k) e = absurd (cc e)
terminated_kept args (plain b) e = refl
terminated_kept args (arrow u s r) e = refl
terminated_kept args (pair s r) e = refl
terminated_kept args (named k) e = refl

branch_instantiated : (make : List ℕ → Label) (args : List Tree) (bs : Branches) (a : Label) →
    branch_at make (instantiated_all args bs) a ≡ option_map (instantiated args) (branch_at make bs a)
branch_instantiated make args none a = refl
branch_instantiated make args (branch l s bs) a = pick (branch_instantiated make args bs a) (same_label a (make l))
  where
    pick : branch_at make (instantiated_all args bs) a ≡ option_map (instantiated args) (branch_at make bs a) → (c : Bool) →
        (if c then Some (instantiated args s) else branch_at make (instantiated_all args bs) a) ≡ option_map (instantiated args)
        (if c then Some s else branch_at make bs a)
    pick next true = refl
    pick next false = next

-- after a message or an end nothing is left of either
ended : (args : List Tree) (c : Bool) → (if c then Some skip else None) ≡ option_map (instantiated args)
    (if c then Some skip else None)
ended args true = refl
ended args false = refl

-- what is left of an instance after a label, with another one behind it, is an instance of what is left of the types
followed_instance : (args : List Tree) (a : Label) (r t : Tree) →
    followed a (instantiated args r) (instantiated args t) ≡ instantiated args (followed a r t)
followed_instance args a r t = pick (is_end a)
  where
    pick : (c : Bool) → (if c then skip else seq (instantiated args t) (instantiated args r)) ≡ instantiated args
        (if c then skip else seq t r)
    pick true = refl
    pick false = refl

module _ (args : List Tree) (ok : ArgumentsHave (IsScoped 0) args) where
  chosen_branch : (env : List (Option Tree)) (o : Option Tree) →
      option_map (substitute (instantiated_env args env)) (option_map (instantiated args) o) ≡ option_map (instantiated args)
      (option_map (substitute env) o)
  chosen_branch env None = refl
  chosen_branch env (Some s) = ap Some (sym (instantiated_substitute args env s ok))

  behind_instance : (env : List (Option Tree)) (a : Label) (r : Tree) (o p : Option Tree) → o ≡ option_map (instantiated args) p →
      option_map (followed a (substitute (instantiated_env args env) (instantiated args r))) o ≡ option_map (instantiated args)
      (option_map (followed a (substitute env r)) p)
  behind_instance env a r o None e = ap (option_map (followed a (substitute (instantiated_env args env) (instantiated args r)))) e
  behind_instance env a r o (Some t) e =
      ap (option_map (followed a (substitute (instantiated_env args env) (instantiated args r)))) e
      ∙ ap (λ q. Some (followed a q (instantiated args t))) (sym (instantiated_substitute args env r ok))
      ∙ ap Some (followed_instance args a (substitute env r) t)

  chosen : (c d : Bool) (x y x' y' : Option Tree) → c ≡ d → (d ≡ true → x ≡ option_map (instantiated args) x') →
      (d ≡ false → y ≡ option_map (instantiated args) y') →
      (if c then x else y) ≡ option_map (instantiated args) (if d then x' else y')
  chosen true true x y x' y' e h k = h refl
  chosen false false x y x' y' e h k = k refl
  chosen true false x y x' y' e h k = absurd (cc e)
  chosen false true x y x' y' e h k = absurd (cc e)

  -- where no variable leads, the instance moves as the type
  pub step_in_instance : (env : List (Option Tree)) (s : Tree) (a : Label) → leading s ≡ None →
      step_in (instantiated_env args env) (instantiated args s) a ≡ option_map (instantiated args) (step_in env s a)
  step_in_instance env skip a e = refl
  step_in_instance env (send b) a e = ended args (same_label a (Send b))
  step_in_instance env (receive b) a e = ended args (same_label a (Receive b))
  step_in_instance env close a e = ended args (same_label a Close)
  step_in_instance env wait a e = ended args (same_label a Wait)
  step_in_instance env (select bs) a e = ap (option_map (substitute (instantiated_env args env)))
      (branch_instantiated Select args bs a) ∙ chosen_branch env (branch_at Select bs a)
  step_in_instance env (offer bs) a e = ap (option_map (substitute (instantiated_env args env)))
      (branch_instantiated Offer args bs a) ∙ chosen_branch env (branch_at Offer bs a)
  step_in_instance env (seq s r) a e = pick (step_in_instance env s a) (step_in_instance env r a) (terminated s) refl e
    where
      pick : (leading s ≡ None → step_in (instantiated_env args env) (instantiated args s) a ≡ option_map (instantiated args)
          (step_in env s a)) →
          (leading r ≡ None → step_in (instantiated_env args env) (instantiated args r) a ≡ option_map (instantiated args)
          (step_in env r a)) →
          (c : Bool) → terminated s ≡ c → (if c then leading r else leading s) ≡ None →
          step_in (instantiated_env args env) (instantiated args (seq s r)) a ≡ option_map (instantiated args)
          (step_in env (seq s r) a)
      pick front behind true is e =
          chosen (terminated (instantiated args s)) (terminated s) _ _ _ _ (instantiated_terminated args s is ∙ sym is)
          (λ t. behind e) (λ f. absurd (cc (sym is ∙ f)))
      pick front behind false is e =
          chosen (terminated (instantiated args s)) (terminated s) _ _ _ _ (terminated_kept args s e)
          (λ t. absurd (cc (sym t ∙ is)))
          (λ f. behind_instance env a r _ (step_in env s a) (front e))
  step_in_instance env (rec s) a e =
      ap (λ t. step_in (Some t ∷ instantiated_env args env) (instantiated args s) a)
      (sym (instantiated_substitute args env (rec s) ok))
      ∙ step_in_instance (Some (substitute env (rec s)) ∷ env) s a e
  step_in_instance env (back k) a e = refl
  step_in_instance env (var k) a e = absurd (cc e)
  step_in_instance env (plain b) a e = refl
  step_in_instance env (arrow u s r) a e = refl
  step_in_instance env (pair s r) a e = refl
  step_in_instance env (named k) a e = refl

-- a type moves by the variable that leads
pub leading_moves : (env : List (Option Tree)) (s : Tree) (k : ℕ) → leading s ≡ Some k → (t : Tree) ×
    (step_in env s (Var k) ≡ Some t)
leading_moves env skip k e = absurd (cc e)
leading_moves env (send b) k e = absurd (cc e)
leading_moves env (receive b) k e = absurd (cc e)
leading_moves env close k e = absurd (cc e)
leading_moves env wait k e = absurd (cc e)
leading_moves env (select bs) k e = absurd (cc e)
leading_moves env (offer bs) k e = absurd (cc e)
leading_moves env (seq s r) k e = pick (leading_moves env s k) (leading_moves env r k) (terminated s) e
  where
    pick : (leading s ≡ Some k → (t : Tree) × (step_in env s (Var k) ≡ Some t)) →
        (leading r ≡ Some k → (t : Tree) × (step_in env r (Var k) ≡ Some t)) → (c : Bool) →
        (if c then leading r else leading s) ≡ Some k →
        (t : Tree) × ((if c then step_in env r (Var k) else option_map (λ t. seq t (substitute env r)) (step_in env s (Var k)))
        ≡ Some t)
    pick front behind true e = behind e
    pick front behind false e =
        let found = front e in
        (seq found.0 (substitute env r), ap (option_map (λ t. seq t (substitute env r))) found.1)
leading_moves env (rec s) k e = leading_moves (Some (substitute env (rec s)) ∷ env) s k e
leading_moves env (back j) k e = absurd (cc e)
leading_moves env (var j) k e =
    let is : j ≡ k = cc in (
      skip,
      ap (λ c. if c then Some skip else None)
          (subst (λ n. same_label (Var k) (Var n) ≡ true) (sym is) (same_label-itself (Var k))),
    )
leading_moves env (plain b) k e = absurd (cc e)
leading_moves env (arrow u s r) k e = absurd (cc e)
leading_moves env (pair s r) k e = absurd (cc e)
leading_moves env (named j) k e = absurd (cc e)

no_branch_select : (bs : Branches) (k : ℕ) → branch_at Select bs (Var k) ≡ None
no_branch_select none k = refl
no_branch_select (branch l s bs) k = no_branch_select bs k

no_branch_offer : (bs : Branches) (k : ℕ) → branch_at Offer bs (Var k) ≡ None
no_branch_offer none k = refl
no_branch_offer (branch l s bs) k = no_branch_offer bs k

-- where no variable leads, the type moves by none
pub unled : (env : List (Option Tree)) (s : Tree) (k : ℕ) → leading s ≡ None → step_in env s (Var k) ≡ None
unled env skip k e = refl
unled env (send b) k e = refl
unled env (receive b) k e = refl
unled env close k e = refl
unled env wait k e = refl
unled env (select bs) k e = ap (option_map (substitute env)) (no_branch_select bs k)
unled env (offer bs) k e = ap (option_map (substitute env)) (no_branch_offer bs k)
unled env (seq s r) k e = pick (unled env s k) (unled env r k) (terminated s) e
  where
    pick : (leading s ≡ None → step_in env s (Var k) ≡ None) → (leading r ≡ None → step_in env r (Var k) ≡ None) → (c : Bool) →
        (if c then leading r else leading s) ≡ None →
        (if c then step_in env r (Var k) else option_map (λ t. seq t (substitute env r)) (step_in env s (Var k))) ≡ None
    pick front behind true e = behind e
    pick front behind false e = ap (option_map (λ t. seq t (substitute env r))) (front e)
unled env (rec s) k e = unled (Some (substitute env (rec s)) ∷ env) s k e
unled env (back j) k e = refl
unled env (var j) k e = absurd (cc e)
unled env (plain b) k e = refl
unled env (arrow u s r) k e = refl
unled env (pair s r) k e = refl
unled env (named j) k e = refl

module _ (outer vars : List Kind) (args : List Tree) (c : IsInstantiation outer vars args) where
  -- what is put for a variable by which a session type moves is a session type
  leading_session : {s t : Tree} {a : Label} → Moves s a t →
      (k : ℕ) → a ≡ Var k → IsSession vars s → IsSession outer (argument args k)
  leading_session sends k e h = absurd (cc e)
  leading_session receives k e h = absurd (cc e)
  leading_session closes k e h = absurd (cc e)
  leading_session waits k e h = absurd (cc e)
  leading_session (selects b) k e h = absurd (cc e)
  leading_session (offers b) k e h = absurd (cc e)
  leading_session (first {s} {r} b m q) k e h = leading_session m k e (first_session vars s r h)
  leading_session (ends {s} {r} b m q) k e h = leading_session m k e (first_session vars s r h)
  leading_session (second {s} {r} b m) k e h = leading_session m k e (second_session vars s r h)
  leading_session (unfolds {s} m) k e h = leading_session m k e (unfolding_of_session vars s h)
  leading_session (variables {k = j}) k e h =
      let is : j ≡ k = cc in
      subst (λ n. IsSession outer (argument args n)) is (instantiated_session outer vars args (var j) c h)

  -- where a type moves by a variable, its instance is what is put for the variable and then the instance of what is left
  pub instance_led : {s t : Tree} {a : Label} → Moves s a t →
      (k : ℕ) → a ≡ Var k → IsSession vars s → Agree step step (instantiated args s) (seq (argument args k) (instantiated args t))
  instance_led sends k e h n = absurd (cc e)
  instance_led receives k e h n = absurd (cc e)
  instance_led closes k e h n = absurd (cc e)
  instance_led waits k e h n = absurd (cc e)
  instance_led (selects b) k e h n = absurd (cc e)
  instance_led (offers b) k e h n = absurd (cc e)
  instance_led {a} (first {s} {r} {t} b m q) k e h n =
      let ws = first_session vars s r h in
      let arg = leading_session m k e ws in
      let left = instantiated_session outer vars args t c (moved_session vars s t a ws m) in
      agrees_through step step step n _ _ _
      (agree_behind n outer (instantiated args s) (seq (argument args k) (instantiated args t)) (instantiated args r)
      (instantiated_session outer vars args s c ws) (seq_session outer (argument args k) (instantiated args t) arg left)
      (instance_led m k e ws n))
      (seq_associates n (argument args k) (instantiated args t) (instantiated args r))
  instance_led (ends b m q) k e h n = absurd (cc (sym q ∙ ap is_end e))
  instance_led {t} (second {s} {r} b m) k e h n =
      agrees_through step step step n _ _ _
      (same_steps (seq (instantiated args s) (instantiated args r)) (instantiated args r)
      (λ x. over_step (instantiated args s) (instantiated args r) x (instantiated_terminated args s b)) n)
      (instance_led m k e (second_session vars s r h) n)
  instance_led {t} (unfolds {s} m) k e h n =
      let whole = instantiated_session outer vars args (rec s) c h in
      let is = instantiated_unfolding_of args s (put_scoped outer vars args c) in
      agrees_through step step step n _ _ _
      (same_steps (rec (instantiated args s)) (unfolding_of (instantiated args s))
      (λ x. sym (unfolding_of_step (instantiated args s) whole.1.scoped whole.1.contractive
      (unfolding_of_contractive outer (instantiated args s) (session whole.0) whole.1.kinded whole.1.scoped whole.1.contractive)
      x)) n)
      (subst (λ x. AgreeTo step step n x (seq (argument args k) (instantiated args t))) is
      (instance_led m k e (unfolding_of_session vars s h) n))
  instance_led (variables {k = j}) k e h n =
      let is : j ≡ k = cc in
      subst (λ i. AgreeTo step step n (argument args j) (seq (argument args i) skip)) is (seq_skip n (argument args j))

  -- the same of a step
  pub step_led : (s t : Tree) (k : ℕ) → IsSession vars s → step s (Var k) ≡ Some t →
      Agree step step (instantiated args s) (seq (argument args k) (instantiated args t))
  step_led s t k h e = instance_led ((steps_are_moves s h.1.scoped h.1.contractive (Var k) t).0 e) k refl h
