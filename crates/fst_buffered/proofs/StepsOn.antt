-- The least task that can move steps again and again.
use Rattle.std.proofs.Common.{◌≡◌, ◌∙◌, ◌<◌, ◌≤◌, ◌+◌, ℕ, zero, suc, true, false, Some, length, sym, ap, subst, arith}
use Rattle.std.proofs.Math.Logic.{∥∥₁_map}
use Rattle.std.proofs.lemmas.Bool.{true≢false}
use Rattle.std.proofs.lemmas.Option.{same_Some}
use Rattle.fst_machine.specs.declared.code.Code.{Code}
use Rattle.fst_machine.specs.declared.request.Request.TheVariants as request
use Rattle.fst_machine.specs.declared.request.Answer.TheVariants.{Go}
use Rattle.fst_vm.specs.Tasks.{Takes, GoesOn}
use Rattle.fst_runs.specs.Configs.{Path}
use Rattle.fst_runs.specs.Wrong.{end_of}
use Rattle.fst_vm.specs.Slot.{Slot}
use Rattle.fst_vm.specs.Going.{MovesOn, StepsOn, CanStep, CanStepOn}
use Rattle.fst_paths.specs.Paths.{put_at}
use Rattle.fst_paths.proofs.Laws.{put_here, put_cases, put_twice}
use Rattle.fst_buffered.specs.Answers.{CanRun}
use Rattle.fst_buffered.specs.Moving.{can}
use Rattle.fst_buffered.specs.Kept.{Kept, settled, asked}
use Rattle.fst_buffered.specs.Running.{IsNextTask, IsKept, Steps}
use Rattle.fst_buffered.proofs.KeptLaws.{put_same}
use Rattle.fst_buffered.proofs.Running.{possible_next, kept_next}
use Rattle.fst_buffered.proofs.Doing.{local_can, local_steps}

module _ (k : Code) (capacity : ℕ) (d : Kept) (p : Path) where
  abbrev types : ℕ
  types = length k.types.items

  -- what is kept where the task has come to this slot
  abbrev pub at_slot : Slot → Kept
  at_slot t = settled types capacity p t d

  -- the slot asks to step
  stands : (t : Slot) → t.request ≡ request.Step → at_slot t ≡ record {
    tasks = put_at p (Some t) d.tasks;
    channels = d.channels;
    made = d.made;
    ready = put_at p true d.ready;
    asker = d.asker;
  }
  stands t e = λ i. record {
    tasks = put_at p (Some t) d.tasks;
    channels = d.channels;
    made = d.made;
    ready = put_at p (can types capacity d.channels (e i)) d.ready;
    asker = asked p (end_of (e i)) d.channels d.asker;
  }

  -- at first it stands there
  stands_first : IsNextTask d (Some p) → (s : Slot) → d.tasks p ≡ Some s → s.request ≡ request.Step → d ≡ at_slot s
  stands_first next s there asks = (λ i. record {
    tasks = put_same p (Some s) d.tasks there i;
    channels = d.channels;
    made = d.made;
    ready = put_same p true d.ready next.0 i;
    asker = d.asker;
  }) ∙ sym (stands s asks)

  -- it is the least that can move
  next_again : IsNextTask d (Some p) → (t : Slot) → t.request ≡ request.Step → IsNextTask (at_slot t) (Some p)
  next_again next t asks = (
    ap (λ (z : Kept). z.ready p) (stands t asks) ∙ put_here p true d.ready,
    λ q before. ap (λ (z : Kept). z.ready q) (stands t asks)
        ∙ put_cases (λ b. b ≡ false) p q true d.ready
        (λ same. absurd (true≢false (sym next.0 ∙ ap d.ready same ∙ next.1 q before))) (λ other. next.1 q before),
  )

  -- having stepped once more, it is as if it had come there at once
  stands_again : (r t : Slot) → r.request ≡ request.Step → settled types capacity p t (at_slot r) ≡ at_slot t
  stands_again r t asks = ap (settled types capacity p t) (stands r asks) ∙ sym (λ i. record {
    tasks = put_twice p (Some t) (Some r) d.tasks i;
    channels = d.channels;
    made = d.made;
    ready = put_twice p (can types capacity d.channels t.request) true d.ready i;
    asker = asked p (end_of t.request) d.channels d.asker;
  })

  -- a step of it
  step_happens : (r t : Slot) → r.request ≡ request.Step → MovesOn k Go zero r t → Steps k capacity (at_slot r) p (at_slot t)
  step_happens r t asks moves =
      local_steps k capacity (at_slot r) p r (put_here p (Some r) d.tasks) asks (at_slot t) (record {
        slot = r;
        there = put_here p (Some r) d.tasks;
        now = t;
        moves_on = moves;
        after = sym (stands_again r t asks);
      })

  module _ (n : ℕ) (s : Slot) (there : d.tasks p ≡ Some s) (asks : s.request ≡ request.Step) (next : IsNextTask d (Some p))
      (kept : IsKept k capacity n d) where
    -- the run has come to where the task stands after so many steps
    pub steps_to : (i : ℕ) (t : Slot) → StepsOn k i s t → IsKept k capacity (n + i) (at_slot t)
    steps_to zero t same =
        let none : n ≡ n + zero = omega arith in
        subst (λ l. IsKept k capacity l (at_slot t)) none
        (subst (IsKept k capacity n) (stands_first next s there asks ∙ ap at_slot (sym same)) kept)
    steps_to (suc i) t (r, steps, asked, moves) =
        let more : suc (n + i) ≡ n + suc i = omega arith in
        subst (λ l. IsKept k capacity l (at_slot t)) more
        (kept_next k capacity (n + i) (at_slot r) (at_slot t) p (steps_to i r steps) (next_again next r asked)
        (step_happens r t asked moves))

    -- and it can step from there
    can_step : (i : ℕ) (t : Slot) → n + i < 4294967295 → StepsOn k i s t → t.request ≡ request.Step → CanRun k capacity →
        CanStep k t
    can_step i t few steps asked right =
        let c = local_can k capacity (at_slot t) p t (put_here p (Some t) d.tasks) asked
        (possible_next k capacity (n + i) (at_slot t) p (steps_to i t steps) (next_again next t asked) few right) in
        let same : c.slot ≡ t = same_Some c.slot t (sym c.there ∙ put_here p (Some t) d.tasks) in
        record {
          takes = subst (λ (z : Slot). Takes k z.task Go) same c.takes;
          next = λ u g. c.next u (subst (λ (z : Slot). GoesOn k z.task Go u) (sym same) g);
          few = subst (λ (z : Slot). z.clock < 4294967295) same c.few;
        }

    pub can_step_on : (most : ℕ) → n + most ≤ 4294967295 → ∥ CanRun k capacity ∥₁ → CanStepOn k most s
    can_step_on most few right = λ i t less steps asked.
        ∥∥₁_map right (can_step i t (omega (arith, few, less)) steps asked)
