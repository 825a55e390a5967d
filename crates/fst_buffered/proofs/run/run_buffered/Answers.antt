use Rattle.std.proofs.Common.{◌≡◌, ◌<◌, suc, sym, subst, arith}
use Rattle.std.proofs.Math.Logic.{∥∥₁_map}
use Rattle.fst_buffered.specs.KeptOf.{kept_of}
use Rattle.fst_buffered.specs.Running.{IsKept, IsNextTask}
use Rattle.fst_buffered.proofs.Running.{can_start, kept_first, some_config, answers_done, answers_out}
use Rattle.fst_buffered.proofs.run.run_buffered.Goals as goal

pub start-requires-clause-start : goal.start-requires-clause-start
start-requires-clause-start c = ∥∥₁_map c.requires.right (can_start c.args.code.now c.args.capacity)

pub loop-config-init : goal.loop-config-init
loop-config-init c =
    let first = kept_of c.in_ok-config.config in
    let none = c.in_ok-config.ensures.events in
    record {
      kept = subst (λ n. IsKept c.args.code.now c.args.capacity n first) (sym none)
          (kept_first c.args.code.now c.args.capacity first c.in_ok-config.ensures.begun);
      most = omega (arith, none);
    }

pub go-requires-clause-next : goal.go-requires-clause-next
go-requires-clause-next c =
    subst (IsNextTask (kept_of c.loop-config.config)) c.in-Some.is c.in_ok-path.ensures

pub report-requires : goal.report-requires
report-requires c =
    let n = c.loop-config.config.events in
    let few : n < 4294967295 = omega (arith, c.requires.few, c.loop-config-test.true) in
    ∥∥₁_map c.requires.right (some_config c.args.code.now c.args.capacity n (kept_of c.loop-config.config)
    c.loop-config.invariant.kept few)

pub returns-in-None : goal.returns-in-None
returns-in-None c =
    let now = kept_of c.loop-config.config in
    answers_done c.args.code.now c.args.capacity c.args.steps c.loop-config.config.events now c.in_ok-report-in-None.report
    c.in_ok-report-in-None.unread c.loop-config.invariant.kept (subst (IsNextTask now) c.in-None.is c.in_ok-path.ensures)
    c.loop-config-test.true c.in_ok-report-in-None.ensures

pub returns : goal.returns
returns c =
    let n = c.loop-config.config.events in
    let over : n ≡ suc c.args.steps = omega (arith, c.loop-config.invariant.most, c.loop-config-test.false) in
    answers_out c.args.code.now c.args.capacity c.args.steps (kept_of c.loop-config.config)
    (subst (λ l. IsKept c.args.code.now c.args.capacity l (kept_of c.loop-config.config)) over c.loop-config.invariant.kept)
