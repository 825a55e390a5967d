-- The first task that can move steps again and again.
use Rattle.std.proofs.Common.{◌≡◌, ◌∙◌, inl, inr, ◌<◌, ◌≤◌, ◌+◌, ℕ, zero, suc, true, false, Option, Some, None, length, refl, sym, ap, subst, arith}
use Rattle.std.specs.Prelude.{option_map, option_and_then}
use Rattle.std.proofs.Math.Logic.{∥∥₁_map}
use Rattle.std.proofs.lemmas.Bool.{true≢false}
use Rattle.fst_base.proofs.Options.{some_same, none_some}
use Rattle.fst_machine.specs.declared.code.Code.{Code}
use Rattle.fst_machine.specs.declared.request.Request.{Request}
use Rattle.fst_machine.specs.declared.request.Request.TheVariants as request
use Rattle.fst_machine.specs.declared.request.Answer.TheVariants.{Go}
use Rattle.fst_vm.specs.Tasks.{Takes, GoesOn}
use Rattle.fst_runs.specs.declared.event.CoreEvent.{CoreEvent}
use Rattle.fst_runs.specs.declared.event.CoreEvent.TheVariants.{Local, New, Fork, Meet}
use Rattle.fst_runs.specs.Configs.{Path}
use Rattle.fst_vm.specs.Slot.{Slot}
use Rattle.fst_paths.specs.Paths.{put_at}
use Rattle.fst_process.specs.Kept.{Kept, partner, without, noted, settled_at}
use Rattle.fst_vm.specs.Going.{CanStep, CanStepOn, MovesOn, StepsOn}
use Rattle.fst_process.specs.Firing.{Happens, HasStepped}
use Rattle.fst_process.specs.Nexts.{IsFirst, IsNext, event_with}
use Rattle.fst_process.specs.Runs.{CanRunFrom, RunsTo}
use Rattle.fst_paths.proofs.Laws.{put_here, put_cases, put_twice, put_back}
use Rattle.fst_process.proofs.FireLocal.{local_can, local_happens}
use Rattle.fst_process.proofs.Running.{kept_first, possible_next, kept_next}

-- the first task that can move asks to step
pub record StepsFirst (d : Kept) (p : Path) : Type 0 where
  pub slot : Slot
  pub there : d.tasks p ≡ Some slot
  pub asked : slot.request ≡ request.Step
  pub first : IsFirst d p

-- so it is where the next event is a step
pub steps_first : (d : Kept) (p : Path) → IsNext d (Some (Local p)) → StepsFirst d p
steps_first d p (inl f) = absurd (none_some (sym f.1))
steps_first d p (inr f) = at (d.tasks f.0) refl f.2
  where
    its_path : CoreEvent → Path
    its_path (Local q) = q
    its_path (New q) = q
    its_path (Fork q) = q
    its_path (Meet q r h) = q

    no_meeting : (o : Option Path) (g : Path → CoreEvent) → ((q : Path) → Local p ≡ g q → ⊥) →
        Some (Local p) ≡ option_map g o → ⊥
    no_meeting None g h e = none_some (sym e)
    no_meeting (Some q) g h e = h q (some_same e)

    by : (s : Slot) (r : Request) → d.tasks f.0 ≡ Some s → s.request ≡ r → Some (Local p) ≡ event_with d f.0 r → StepsFirst d p
    by s request.Step there asked e =
        let same : f.0 ≡ p = sym (ap its_path (some_same e)) in
        record { slot = s; there = ap d.tasks (sym same) ∙ there; asked = asked; first = subst (IsFirst d) same f.1 }
    by s (request.New n) there asked e = absurd (cc e)
    by s request.Fork there asked e = absurd (cc e)
    by s (request.Put x ev) there asked e = absurd (no_meeting (partner d x) (λ q. Meet f.0 q x.channel) (λ q g. cc g) e)
    by s (request.Get x) there asked e = absurd (no_meeting (partner d x) (λ q. Meet q f.0 x.channel) (λ q g. cc g) e)
    by s request.Ended there asked e = absurd (none_some (sym e))

    at : (o : Option Slot) → d.tasks f.0 ≡ o → Some (Local p) ≡ option_and_then
        (λ (s : Slot). event_with d f.0 s.request) (d.tasks f.0) → StepsFirst d p
    at None there e =
        absurd (none_some (sym (e ∙ ap (option_and_then (λ (s : Slot). event_with d f.0 s.request)) there)))
    at (Some s) there e =
        by s s.request there refl (e ∙ ap (option_and_then (λ (s : Slot). event_with d f.0 s.request)) there)

-- a task that steps stays at its path
pub steps_path : (k : Code) (i : ℕ) (s t : Slot) → StepsOn k i s t → t.task.path ≡ s.task.path
steps_path k zero s t same = ap (λ z. z.task.path) same
steps_path k (suc i) s t (r, steps, asked, moves) = moves.stays.path ∙ moves.goes_on.path ∙ steps_path k i s r steps

module _ (k : Code) (d : Kept) (p : Path) where
  -- what is kept where the task has come to this slot
  abbrev pub at_slot : Slot → Kept
  at_slot t = settled_at (length k.types.items) p t (without p d)

  -- so it is where the slot asks to step
  abbrev stands : Slot → Kept
  stands t = record {
    tasks = put_at p (Some t) (put_at p None d.tasks);
    channels = d.channels;
    made = d.made;
    ready =
        put_at p true (put_at p false d.ready);
  }

  it_stands : (t : Slot) → t.request ≡ request.Step → at_slot t ≡ stands t
  it_stands t asked = ap (λ r. noted (length k.types.items) p r (record (without p d)
      { tasks = put_at p (Some t) (put_at p None d.tasks) })) asked

  -- at first it stands there
  pub stands_first : (x : StepsFirst d p) → d ≡ at_slot x.slot
  stands_first x = (λ i. record {
    tasks = put_back p (Some x.slot) None d.tasks x.there i;
    channels = d.channels;
    made = d.made;
    ready =
        put_back p true false d.ready x.first.moves i;
  }) ∙ sym (it_stands x.slot x.asked)

  -- and is there
  pub there_again : (t : Slot) → t.request ≡ request.Step → (at_slot t).tasks p ≡ Some t
  there_again t asked = ap (λ z. z.tasks p) (it_stands t asked) ∙ put_here p (Some t) (put_at p None d.tasks)

  -- its event is the next one again
  pub next_again : IsFirst d p → (t : Slot) → t.request ≡ request.Step → IsNext (at_slot t) (Some (Local p))
  next_again first t asked =
      subst (λ z. IsNext z (Some (Local p))) (sym (it_stands t asked)) (inr (
        p,
        record {
          moves = put_here p true (put_at p false d.ready);
          none_before =
              λ q before. put_cases (λ b. b ≡ false) p q true (put_at p false d.ready)
              (λ same. absurd (true≢false (sym first.moves ∙ ap d.ready same ∙ first.none_before q before)))
              (λ other. put_cases (λ b. b ≡ false) p q false d.ready (λ same. refl) (λ other. first.none_before q before));
        },
        sym (ap (option_and_then (λ (s : Slot). event_with (stands t) p s.request))
            (put_here p (Some t) (put_at p None d.tasks)) ∙ ap (event_with (stands t) p) asked),
      ))

  -- without it all is as it was without it
  without_again : (t : Slot) → t.request ≡ request.Step → without p (at_slot t) ≡ without p d
  without_again t asked =
      ap (without p) (it_stands t asked) ∙ (λ i. record {
        tasks = (sym (put_twice p None (Some t) (put_at p None d.tasks)) ∙ sym (put_twice p None None d.tasks)) i;
        channels = d.channels;
        made = d.made;
        ready =
            (sym (put_twice p false true (put_at p false d.ready)) ∙ sym (put_twice p false false d.ready)) i;
      })

  -- its next step happens
  pub step_happens : (r t : Slot) → r.request ≡ request.Step → MovesOn k Go zero r t →
      Happens k (at_slot r) (Local p) (at_slot t)
  step_happens r t asked moves = local_happens k (at_slot r) p (at_slot t) (record {
    slot = r;
    there = there_again r asked;
    now = t;
    moves_on = moves;
    after = ap (settled_at (length k.types.items) p t) (sym (without_again r asked));
  })

  module _ (n : ℕ) (x : StepsFirst d p) where
    -- the run has come to where the task stands after so many steps
    steps_to : (i : ℕ) (t : Slot) → StepsOn k i x.slot t → RunsTo k n d (n + i) (at_slot t)
    steps_to zero t same =
        let none : n ≡ n + zero = omega arith in
        subst (λ l. RunsTo k n d l (at_slot t)) none
        (subst (RunsTo k n d n) (stands_first x ∙ ap at_slot (sym same)) (kept_first k n d))
    steps_to (suc i) t (r, steps, asked, moves) =
        let more : suc (n + i) ≡ n + suc i = omega arith in
        kept_next k n d (n + i) (n + suc i) (at_slot r) (at_slot t) (Local p) (steps_to i r steps)
        (next_again x.first r asked) (step_happens r t asked moves) more

    -- and it can step from there
    can_step : (i : ℕ) (t : Slot) → n + i < 4294967295 → StepsOn k i x.slot t → t.request ≡ request.Step → CanRunFrom k n d →
        CanStep k t
    can_step i t few steps asked right =
        let c = local_can k (at_slot t) p (possible_next k n d (n + i) (at_slot t) (Local p) (steps_to i t steps)
        (next_again x.first t asked) few right) in
        let same : c.slot ≡ t = some_same (sym c.there ∙ there_again t asked) in
        record {
          takes = subst (λ (s : Slot). Takes k s.task Go) same c.takes;
          next = λ u g. c.next u (subst (λ (s : Slot). GoesOn k s.task Go u) (sym same) g);
          few = subst (λ (s : Slot). s.clock < 4294967295) same c.few;
        }

    pub can_step_on : (most : ℕ) → n + most ≤ 4294967295 → ∥ CanRunFrom k n d ∥₁ → CanStepOn k most x.slot
    can_step_on most few right = λ i t less steps asked.
        ∥∥₁_map right (can_step i t (omega (arith, few, less)) steps asked)

    -- its path is the one where it was found
    pub its_path : n < 4294967295 → CanRunFrom k n d → x.slot.task.path ≡ p
    its_path few right =
        let next = subst (λ z. IsNext z (Some (Local p))) (sym (stands_first x)) (next_again x.first x.slot x.asked) in
        let c = local_can k d p (possible_next k n d n d (Local p) (kept_first k n d) next few right) in
        subst (λ (s : Slot). s.task.path ≡ p) (some_same (sym c.there ∙ x.there)) c.path

    -- what is kept after it has stepped so many times is what the run has come to
    pub stepped_to : (i : ℕ) (e : Kept) → HasStepped k p i d e → RunsTo k n d (n + i) e
    stepped_to i e s =
        subst (RunsTo k n d (n + i)) (sym s.after) (steps_to i s.now
        (subst (λ z. StepsOn k i z s.now) (some_same (sym s.there ∙ x.there)) s.steps))

-- each step counts one more on the clock
pub steps_clock : (k : Code) (i : ℕ) (s t : Slot) → StepsOn k i s t → t.clock ≡ s.clock + i
steps_clock k zero s t same = let e = ap (λ (z : Slot). z.clock) same in omega (arith, e)
steps_clock k (suc i) s t (r, steps, asked, moves) =
    let e = steps_clock k i s r steps in
    let f = moves.clock in
    omega (arith, e, f)
