use Rattle.std.proofs.Common.{◌<◌, Some, subst, sym, arith}
use Rattle.std.proofs.Math.Logic.{∥∥₁_map}
use Rattle.fst_process.specs.KeptOf.{kept_of}
use Rattle.fst_process.specs.Nexts.{IsNext}
use Rattle.fst_process.specs.Runs.{RunsTo}
use Rattle.fst_process.proofs.Alone.{steps_first, stepped_to}
use Rattle.fst_process.proofs.Running.{kept_first, possible_next, kept_next, kept_then, can_run_on, answers_done, answers_out, some_config}
use Rattle.fst_process.proofs.run.run_from.Goals as goal

pub loop-config-init : goal.loop-config-init
loop-config-init c = kept_first c.args.code.now c.args.config.events (kept_of c.args.config)

pub step_on-requires-clause-right : goal.step_on-requires-clause-right
step_on-requires-clause-right c =
    ∥∥₁_map c.requires.right (can_run_on c.args.code.now c.args.config.events (kept_of c.args.config) c.loop-config.config.events
    (kept_of c.loop-config.config) c.loop-config.invariant)

pub loop-config-preserved-in-Some-Local : goal.loop-config-preserved-in-Some-Local
loop-config-preserved-in-Some-Local c =
    let now = kept_of c.loop-config.config in
    let n = c.loop-config.config.events in
    let said = c.in_ok-step_on-in-Some-Local.ensures in
    let x = steps_first now c.in-Some-Local.path (subst (λ e. IsNext now (Some e)) c.in-Some-Local.field-0-is
    (subst (IsNext now) c.in-Some-Local.is c.in_ok-path.ensures)) in
    let steps = stepped_to c.args.code.now now c.in-Some-Local.path n x _ (kept_of c.step_on.new.self) said.steps in
    kept_then c.args.code.now c.args.config.events (kept_of c.args.config) n c.step_on.new.self.events now
    (kept_of c.step_on.new.self) c.loop-config.invariant
    (subst (λ l. RunsTo c.args.code.now n now l (kept_of c.step_on.new.self)) (sym said.counted) steps)

pub fire-requires-clause-possible : goal.fire-requires-clause-possible
fire-requires-clause-possible c =
    let first = kept_of c.args.config in
    let now = kept_of c.loop-config.config in
    let n = c.loop-config.config.events in
    let next = subst (IsNext now) c.in-Some.is c.in_ok-path.ensures in
    let few : n < 4294967295 = omega (arith, c.requires.few, c.loop-config-test.true) in
    ∥∥₁_map c.requires.right (possible_next c.args.code.now c.args.config.events first n now c.in-Some.event
    c.loop-config.invariant next few)

pub report-requires : goal.report-requires
report-requires c =
    let n = c.loop-config.config.events in
    let few : n < 4294967295 = omega (arith, c.requires.few, c.loop-config-test.true) in
    ∥∥₁_map c.requires.right (some_config c.args.code.now c.args.config.events (kept_of c.args.config) n
    (kept_of c.loop-config.config) c.loop-config.invariant few)

pub returns-in-None : goal.returns-in-None
returns-in-None c =
    let now = kept_of c.loop-config.config in
    let next = subst (IsNext now) c.in-None.is c.in_ok-path.ensures in
    answers_done c.args.code.now c.args.config.events
    (kept_of c.args.config) c.args.steps c.loop-config.config.events now c.in_ok-report-in-None.report c.loop-config.invariant
    next
    c.loop-config-test.true c.in_ok-report-in-None.ensures

pub loop-config-preserved-in_ok-fire-in-Some : goal.loop-config-preserved-in_ok-fire-in-Some
loop-config-preserved-in_ok-fire-in-Some c =
    kept_next c.args.code.now c.args.config.events (kept_of c.args.config) c.loop-config.config.events c.fire.new.self.events
    (kept_of c.loop-config.config) (kept_of c.fire.new.self) c.in-Some.event
    c.loop-config.invariant (subst (IsNext (kept_of c.loop-config.config)) c.in-Some.is c.in_ok-path.ensures)
    c.in_ok-fire-in-Some.ensures.happens (sym c.in_ok-fire-in-Some.ensures.counted)

pub loop-config-preserved-in_ok-fire-in-Some-2 : goal.loop-config-preserved-in_ok-fire-in-Some-2
loop-config-preserved-in_ok-fire-in-Some-2 c =
    kept_next c.args.code.now c.args.config.events (kept_of c.args.config) c.loop-config.config.events c.fire.new.self.events
    (kept_of c.loop-config.config) (kept_of c.fire.new.self) c.in-Some.event
    c.loop-config.invariant (subst (IsNext (kept_of c.loop-config.config)) c.in-Some.is c.in_ok-path.ensures)
    c.in_ok-fire-in-Some.ensures.happens (sym c.in_ok-fire-in-Some.ensures.counted)

pub loop-config-preserved-in_ok-fire-in-Some-3 : goal.loop-config-preserved-in_ok-fire-in-Some-3
loop-config-preserved-in_ok-fire-in-Some-3 c =
    kept_next c.args.code.now c.args.config.events (kept_of c.args.config) c.loop-config.config.events c.fire.new.self.events
    (kept_of c.loop-config.config) (kept_of c.fire.new.self) c.in-Some.event
    c.loop-config.invariant (subst (IsNext (kept_of c.loop-config.config)) c.in-Some.is c.in_ok-path.ensures)
    c.in_ok-fire-in-Some.ensures.happens (sym c.in_ok-fire-in-Some.ensures.counted)

pub loop-config-preserved : goal.loop-config-preserved
loop-config-preserved c =
    kept_next c.args.code.now c.args.config.events (kept_of c.args.config) c.loop-config.config.events c.fire.new.self.events
    (kept_of c.loop-config.config) (kept_of c.fire.new.self) c.in-Some.event
    c.loop-config.invariant (subst (IsNext (kept_of c.loop-config.config)) c.in-Some.is c.in_ok-path.ensures)
    c.in_ok-fire-in-Some.ensures.happens (sym c.in_ok-fire-in-Some.ensures.counted)

pub returns : goal.returns
returns c =
    answers_out c.args.code.now c.args.config.events (kept_of c.args.config) c.args.steps c.loop-config.config.events
    (kept_of c.loop-config.config) c.loop-config.invariant
    c.loop-config-test.false
