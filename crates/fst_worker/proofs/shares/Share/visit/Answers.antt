use Rattle.std.proofs.Common.{◌∙◌, ◌+◌, true, false, refl, sym, subst, arith}
use Rattle.fst_worker.specs.Passes.{StopsAt}
use Rattle.fst_worker.proofs.Steps.{within}
use Rattle.fst_worker.proofs.Passing.{passes_as, visit_ends, visit_waits, visit_halts, put_halted}
use Rattle.fst_worker.proofs.shares.Share.visit.Goals as goal

pub returns-then-walk-clause-visits : goal.returns-then-walk-clause-visits
returns-then-walk-clause-visits g c s p =
    let k = c.args.code.now in
    passes_as k c.args.steps (c.args.walk.kept + 1) c.keep.result.kept
    (c.args.i + 1) true c.keep.result.halted s c.keep.new.self c.keep.ensures.more.0 (c.keep.ensures.more.1 ∙ c.if-walk.true)
    (put_halted k c.args.steps c.args.walk.kept c.args.i s c.args.self.now c.keep.new.self
    (within c.args.self.now c.args.i c.requires.at) c.requires.kept c.keep.ensures.put
    (passes_as k c.args.steps c.args.walk.kept c.args.walk.kept c.args.i c.args.walk.halted true s c.args.self.now refl
    (sym c.if-walk.true) p))

pub returns-in-Waits-clause-visits : goal.returns-in-Waits-clause-visits
returns-in-Waits-clause-visits g c s p =
    let k = c.args.code.now in
    let n = c.run_at-stop.ensures.len.0 in
    let at = c.requires.at in
    passes_as k c.args.steps (c.args.walk.kept + 1) c.keep-in-Waits.result.kept
    (c.args.i + 1) false c.keep-in-Waits.result.halted s c.keep-in-Waits.new.self c.keep-in-Waits.ensures.more.0
    (c.keep-in-Waits.ensures.more.1 ∙ c.if-walk.false)
    (visit_waits k c.args.steps c.args.walk.kept c.args.i s c.args.self.now c.run_at-stop.new.self c.keep-in-Waits.new.self
    (within c.args.self.now c.args.i at)
    (within c.run_at-stop.new.self c.args.i (omega (arith, n, at))) c.requires.kept c.keep-in-Waits.ensures.put
    (passes_as k c.args.steps c.args.walk.kept c.args.walk.kept c.args.i c.args.walk.halted false s c.args.self.now refl
    (sym c.if-walk.false) p)
    (subst (λ r. StopsAt k c.args.i c.args.steps r c.args.self.now c.run_at-stop.new.self) c.in-Waits.is
    c.run_at-stop.ensures.stops))

pub returns-in-Ends-clause-visits : goal.returns-in-Ends-clause-visits
returns-in-Ends-clause-visits g c s p =
    let k = c.args.code.now in
    passes_as k c.args.steps c.args.walk.kept c.args.walk.kept
    (c.args.i + 1) false c.args.walk.halted s c.run_at-stop.new.self refl c.if-walk.false
    (visit_ends k c.args.steps c.args.walk.kept c.args.i s c.args.self.now c.run_at-stop.new.self
    (within c.args.self.now c.args.i c.requires.at) c.requires.kept
    (passes_as k c.args.steps c.args.walk.kept c.args.walk.kept c.args.i c.args.walk.halted false s c.args.self.now refl
    (sym c.if-walk.false) p)
    (subst (λ r. StopsAt k c.args.i c.args.steps r c.args.self.now c.run_at-stop.new.self) c.in-Ends.is
    c.run_at-stop.ensures.stops))

pub returns-in-Halts-clause-visits : goal.returns-in-Halts-clause-visits
returns-in-Halts-clause-visits g c s p =
    let k = c.args.code.now in
    let n = c.run_at-stop.ensures.len.0 in
    let at = c.requires.at in
    passes_as k c.args.steps (c.args.walk.kept + 1) c.keep-in-Halts.result.kept
    (c.args.i + 1) true c.keep-in-Halts.result.halted s c.keep-in-Halts.new.self c.keep-in-Halts.ensures.more.0
    c.keep-in-Halts.ensures.more.1
    (visit_halts k c.args.steps c.args.walk.kept c.args.i s c.args.self.now c.run_at-stop.new.self c.keep-in-Halts.new.self
    (within c.args.self.now c.args.i at)
    (within c.run_at-stop.new.self c.args.i (omega (arith, n, at))) c.requires.kept c.keep-in-Halts.ensures.put
    (passes_as k c.args.steps c.args.walk.kept c.args.walk.kept c.args.i c.args.walk.halted false s c.args.self.now refl
    (sym c.if-walk.false) p)
    (subst (λ r. StopsAt k c.args.i c.args.steps r c.args.self.now c.run_at-stop.new.self) c.in-Halts.is
    c.run_at-stop.ensures.stops))
