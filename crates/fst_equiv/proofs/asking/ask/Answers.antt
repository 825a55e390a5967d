use Rattle.std.proofs.Common.{sym, subst, List, Bool}
use Rattle.fst_norms.specs.Pruned.{AreUnnormed}
use Rattle.fst_equiv.specs.Problem.{IsProblem}
use Rattle.fst_equiv.specs.Verdicts.{IsVerdict}
use Rattle.fst_equiv.specs.declared.verdict.Verdict.{Verdict}
use Rattle.fst_equiv.proofs.VerdictLaws.{normed_decided, stand_pruned, verdict_right, verdict_answers}
use Rattle.fst_equiv.proofs.asking.ask.Goals as goal

pub returns-clause-verdict : goal.returns-clause-verdict
returns-clause-verdict c =
    let s = c.args.t.now in
    let r = c.args.u.now in
    let g = c.in_ok-g.g in
    let t = c.in_ok-g.ensures in
    let marks = c.as_slice-marks.result.now in
    let unnormed : AreUnnormed g.rules.items marks = subst
    (λ (z : List Bool). AreUnnormed g.rules.items z) (sym c.as_slice-marks.ensures.value) c.in_ok-marks.ensures.unnormed in
    let problem : IsProblem s r g.letters.items g.rules.items c.in_ok-g.left c.in_ok-g.right marks =
    record { translation = t.translation; small = t.small; range = t.range; ruled = t.ruled; unnormed = unnormed } in
    subst (λ (z : Verdict). IsVerdict s r c.args.budget z) (sym c.verdict_of.ensures)
    (verdict_right s r c.args.budget g c.in_ok-g.left c.in_ok-g.right c.prune.new.w c.prune-2.new.w marks
    c.in_ok-finding.finding problem
    c.prune.ensures.cut c.prune-2.ensures.cut
    (stand_pruned g.letters.items g.rules.items c.in_ok-g.left c.in_ok-g.right c.prune.new.w c.prune-2.new.w s r t.left t.right
    (c.prune.ensures.same g.rules.items unnormed.set) (c.prune-2.ensures.same g.rules.items unnormed.set))
    c.in_ok-finding.ensures)

pub returns-clause-answer : goal.returns-clause-answer
returns-clause-answer c =
    verdict_answers c.args.t.now c.args.u.now c.args.budget c.verdict_of.result (returns-clause-verdict c)

pub returns-clause-normed : goal.returns-clause-normed
returns-clause-normed c n =
    normed_decided c.one_grammar.ensures c.requires.session_left.0 c.requires.session_right.0 c.args.t.now c.args.u.now
    c.args.budget c.requires.session_left.1 c.requires.session_right.1 c.verdict_of.result (returns-clause-verdict c) n
