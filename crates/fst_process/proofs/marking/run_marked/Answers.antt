use Rattle.std.proofs.Common.{◌≡◌, ◌∙◌, ◌<◌, Some, subst, sym, ap, arith}
use Rattle.std.proofs.Math.Logic.{∥∥₁_map}
use Rattle.std.specs.Prelude.{not}
use Rattle.fst_base.proofs.Options.{some_same}
use Rattle.fst_runs.specs.declared.event.CoreEvent.TheVariants.{Local}
use Rattle.fst_vm.specs.Slot.{Slot, has_ended, is_live}
use Rattle.fst_vm.specs.SlotOf.{slot_of}
use Rattle.fst_process.specs.KeptOf.{kept_of}
use Rattle.fst_process.specs.Nexts.{IsNext}
use Rattle.fst_process.specs.Marking.{marks_in, step_marks, with_marks}
use Rattle.fst_process.proofs.Running.{can_run_on, possible_next, some_config}
use Rattle.fst_process.proofs.Alone.{steps_first}
use Rattle.fst_process.proofs.Stepping.{clock_within}
use Rattle.fst_process.proofs.MarkedRuns.{MarksTo, marked_runs, marked_first, marked_next, marked_done, marked_out}
use Rattle.fst_process.proofs.MarkedSteps.{marked_steps}
use Rattle.fst_process.proofs.marking.run_marked.Goals as goal

pub loop-config-init : goal.loop-config-init
loop-config-init c =
    marked_first c.args.code.now c.args.config.events (kept_of c.args.config) (marks_in c.new-marks.result.entries)
    (λ p. ap (λ es. marks_in es p) c.new-marks.ensures.empty)

pub slot-requires : goal.slot-requires
slot-requires c =
    let now = kept_of c.loop-config.config in
    let x = steps_first now c.in-Some-Local.path (subst (λ e. IsNext now (Some e)) c.in-Some-Local.field-0-is
    (subst (IsNext now) c.in-Some-Local.is c.in_ok-path.ensures)) in
    ap (λ o. is_live o) x.there ∙ ap (λ r. not (has_ended r)) x.asked

pub step_on-requires-clause-right : goal.step_on-requires-clause-right
step_on-requires-clause-right c =
    let first = kept_of c.args.config in
    let now = kept_of c.loop-config.config in
    let n = c.loop-config.config.events in
    let before = c.args.config.events in
    let runs = marked_runs c.args.code.now before first n now (marks_in c.loop-config.marks.entries) c.loop-config.invariant in
    ∥∥₁_map c.requires.right (can_run_on c.args.code.now before first n now runs)

pub add_steps-requires : goal.add_steps-requires
add_steps-requires c =
    let first = kept_of c.args.config in
    let now = kept_of c.loop-config.config in
    let n = c.loop-config.config.events in
    let before = c.args.config.events in
    let path = c.in-Some-Local.path in
    let runs = marked_runs c.args.code.now before first n now (marks_in c.loop-config.marks.entries) c.loop-config.invariant in
    let next = subst (λ e. IsNext now (Some e)) c.in-Some-Local.field-0-is
    (subst (IsNext now) c.in-Some-Local.is c.in_ok-path.ensures) in
    let few : n < 4294967295 = omega (arith, c.requires.few, c.loop-config-test.true) in
    let possible = ∥∥₁_map c.requires.right (possible_next c.args.code.now before first n now (Local path) runs next few) in
    let clock = clock_within c.args.code.now now path _ (Local path) c.slot.ensures possible in
    omega (arith, clock, c.in_ok-count-in-Some-Local.ensures.most, c.requires.few)

pub loop-config-preserved-in-Some-Local : goal.loop-config-preserved-in-Some-Local
loop-config-preserved-in-Some-Local c =
    let now = kept_of c.loop-config.config in
    let n = c.loop-config.config.events in
    let path = c.in-Some-Local.path in
    let said = c.in_ok-count-in-Some-Local.ensures in
    let after = kept_of c.step_on.new.self in
    let x = steps_first now path (subst (λ e. IsNext now (Some e)) c.in-Some-Local.field-0-is
    (subst (IsNext now) c.in-Some-Local.is c.in_ok-path.ensures)) in
    let its_clock = λ (s : Slot) (there : now.tasks path ≡ Some s).
    ap (λ (z : Slot). z.clock) (some_same (sym there ∙ c.slot.ensures)) in
    let code = c.args.code.now in
    let before = c.args.config.events in
    let first = kept_of c.args.config in
    let old = marks_in c.loop-config.marks.entries in
    let count = c.in_ok-count-in-Some-Local.count in
    let clock = (slot_of c.slot.result.now).clock in
    let new = with_marks path (step_marks clock count) old in
    let to = marked_steps code before first n now old c.loop-config.invariant path x count after clock its_clock said.steps in
    subst (MarksTo code before first c.step_on.new.self.events after) (sym c.in_ok-add_steps-in-Some-Local.ensures)
    (subst (λ l. MarksTo code before first l after new) (sym said.counted) to)

pub mark-requires : goal.mark-requires
mark-requires c =
    let first = kept_of c.args.config in
    let now = kept_of c.loop-config.config in
    let n = c.loop-config.config.events in
    let before = c.args.config.events in
    let runs = marked_runs c.args.code.now before first n now (marks_in c.loop-config.marks.entries) c.loop-config.invariant in
    let next = subst (IsNext now) c.in-Some.is c.in_ok-path.ensures in
    let few : n < 4294967295 = omega (arith, c.requires.few, c.loop-config-test.true) in
    ∥∥₁_map c.requires.right (possible_next c.args.code.now before first n now c.in-Some.event runs next few)

pub fire-requires-clause-possible : goal.fire-requires-clause-possible
fire-requires-clause-possible c =
    let first = kept_of c.args.config in
    let now = kept_of c.loop-config.config in
    let n = c.loop-config.config.events in
    let before = c.args.config.events in
    let runs = marked_runs c.args.code.now before first n now (marks_in c.loop-config.marks.entries) c.loop-config.invariant in
    let next = subst (IsNext now) c.in-Some.is c.in_ok-path.ensures in
    let few : n < 4294967295 = omega (arith, c.requires.few, c.loop-config-test.true) in
    ∥∥₁_map c.requires.right (possible_next c.args.code.now before first n now c.in-Some.event runs next few)

pub loop-config-preserved-in_ok-fire-in-Some : goal.loop-config-preserved-in_ok-fire-in-Some
loop-config-preserved-in_ok-fire-in-Some c =
    let now = kept_of c.loop-config.config in
    marked_next c.args.code.now c.args.config.events (kept_of c.args.config) c.loop-config.config.events
    c.fire.new.self.events now (kept_of c.fire.new.self) (marks_in c.loop-config.marks.entries)
    (marks_in c.mark.new.all.entries) c.in-Some.event
    c.loop-config.invariant (subst (IsNext now) c.in-Some.is c.in_ok-path.ensures) c.in_ok-mark-in-Some.ensures
    c.in_ok-fire-in-Some.ensures.happens (sym c.in_ok-fire-in-Some.ensures.counted)

pub loop-config-preserved-in_ok-fire-in-Some-2 : goal.loop-config-preserved-in_ok-fire-in-Some-2
loop-config-preserved-in_ok-fire-in-Some-2 c =
    let now = kept_of c.loop-config.config in
    marked_next c.args.code.now c.args.config.events (kept_of c.args.config) c.loop-config.config.events
    c.fire.new.self.events now (kept_of c.fire.new.self) (marks_in c.loop-config.marks.entries)
    (marks_in c.mark.new.all.entries) c.in-Some.event
    c.loop-config.invariant (subst (IsNext now) c.in-Some.is c.in_ok-path.ensures) c.in_ok-mark-in-Some.ensures
    c.in_ok-fire-in-Some.ensures.happens (sym c.in_ok-fire-in-Some.ensures.counted)

pub loop-config-preserved-in_ok-fire-in-Some-3 : goal.loop-config-preserved-in_ok-fire-in-Some-3
loop-config-preserved-in_ok-fire-in-Some-3 c =
    let now = kept_of c.loop-config.config in
    marked_next c.args.code.now c.args.config.events (kept_of c.args.config) c.loop-config.config.events
    c.fire.new.self.events now (kept_of c.fire.new.self) (marks_in c.loop-config.marks.entries)
    (marks_in c.mark.new.all.entries) c.in-Some.event
    c.loop-config.invariant (subst (IsNext now) c.in-Some.is c.in_ok-path.ensures) c.in_ok-mark-in-Some.ensures
    c.in_ok-fire-in-Some.ensures.happens (sym c.in_ok-fire-in-Some.ensures.counted)

pub loop-config-preserved : goal.loop-config-preserved
loop-config-preserved c =
    let now = kept_of c.loop-config.config in
    marked_next c.args.code.now c.args.config.events (kept_of c.args.config) c.loop-config.config.events
    c.fire.new.self.events now (kept_of c.fire.new.self) (marks_in c.loop-config.marks.entries)
    (marks_in c.mark.new.all.entries) c.in-Some.event
    c.loop-config.invariant (subst (IsNext now) c.in-Some.is c.in_ok-path.ensures) c.in_ok-mark-in-Some.ensures
    c.in_ok-fire-in-Some.ensures.happens (sym c.in_ok-fire-in-Some.ensures.counted)

pub report-requires : goal.report-requires
report-requires c =
    let first = kept_of c.args.config in
    let now = kept_of c.loop-config.config in
    let n = c.loop-config.config.events in
    let before = c.args.config.events in
    let runs = marked_runs c.args.code.now before first n now (marks_in c.loop-config.marks.entries) c.loop-config.invariant in
    let few : n < 4294967295 = omega (arith, c.requires.few, c.loop-config-test.true) in
    ∥∥₁_map c.requires.right (some_config c.args.code.now before first n now runs few)

pub returns-in-None : goal.returns-in-None
returns-in-None c =
    let now = kept_of c.loop-config.config in
    marked_done c.args.code.now c.args.config.events
    (kept_of c.args.config) c.args.steps c.loop-config.config.events now c.loop-config.marks.entries
    c.in_ok-tasks-in-None.tasks.items c.loop-config.invariant c.in_ok-tasks-in-None.ensures.ordered
    c.in_ok-tasks-in-None.ensures.items c.in_ok-report-in-None.report
    (subst (IsNext now) c.in-None.is c.in_ok-path.ensures) c.loop-config-test.true c.in_ok-report-in-None.ensures

pub returns : goal.returns
returns c =
    marked_out c.args.code.now c.args.config.events (kept_of c.args.config) c.args.steps c.loop-config.config.events
    (kept_of c.loop-config.config) c.loop-config.marks.entries c.in_ok-tasks.tasks.items c.loop-config.invariant
    c.in_ok-tasks.ensures.ordered c.in_ok-tasks.ensures.items c.loop-config-test.false
