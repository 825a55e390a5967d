use Rattle.std.proofs.Common.{List, Bool, subst, sym}
use Rattle.fst_norms.specs.Pruned.{AreUnnormed}
use Rattle.fst_equiv.specs.Problem.{IsProblem}
use Rattle.fst_equiv.proofs.Laws.{stand_pruned, types_agree}
use Rattle.fst_words.proofs.Laws.{same_by_labels}
use Rattle.fst_cert.proofs.AuditLaws.{grammar_small, proof_valid}
use Rattle.fst_cert.proofs.auditing.audit.Goals as goal

pub returns-clause-valid : goal.returns-clause-valid
returns-clause-valid c =
    let s = c.args.t.now in
    let r = c.args.u.now in
    let g = c.in_ok-g.g in
    let t = c.in_ok-g.ensures in
    let marks = c.as_slice-marks.result.now in
    let unnormed : AreUnnormed g.rules.items marks = subst
    (λ (z : List Bool). AreUnnormed g.rules.items z) (sym c.as_slice-marks.ensures.value) c.in_ok-marks.ensures.unnormed in
    let problem : IsProblem s r g.letters.items g.rules.items c.in_ok-g.left c.in_ok-g.right marks =
    record { translation = t.translation; small = t.small; range = t.range; ruled = t.ruled; unnormed = unnormed } in
    let told = rw (c.deref.ensures.value, c.deref-2.ensures.value, c.prune.ensures.cut, c.prune-2.ensures.cut) at
    c.in_ok-valid.ensures.proof in (
      (λ yes. record {
        letters = g.letters.items;
        rows = g.rules.items;
        u = c.in_ok-g.left;
        v = c.in_ok-g.right;
        marks = marks;
        problem = problem;
        proof = told.0 yes;
      }),
      (λ valid. told.1 (proof_valid c.one_grammar.ensures c.requires.session_left.0 c.requires.session_right.0 s r
          c.requires.session_left.1 c.requires.session_right.1 g.letters.items g.rules.items c.in_ok-g.left c.in_ok-g.right marks
          problem c.args.p.now.basis.items c.args.p.now.chains.items valid)),
    )

pub returns-clause-agree : goal.returns-clause-agree
returns-clause-agree c valid =
    let s = c.args.t.now in
    let r = c.args.u.now in
    let g = c.in_ok-g.g in
    let t = c.in_ok-g.ensures in
    let marks = c.as_slice-marks.result.now in
    let unnormed : AreUnnormed g.rules.items marks = subst
    (λ (z : List Bool). AreUnnormed g.rules.items z) (sym c.as_slice-marks.ensures.value) c.in_ok-marks.ensures.unnormed in
    let x = c.prune.new.w in
    let y = c.prune-2.new.w in
    types_agree g.letters.items g.rules.items x y s r
    (stand_pruned g.letters.items g.rules.items c.in_ok-g.left c.in_ok-g.right x y s r t.left t.right
    (c.prune.ensures.same g.rules.items unnormed.set) (c.prune-2.ensures.same g.rules.items unnormed.set))
    (same_by_labels g.letters.items g.rules.items x y (c.in_ok-valid.ensures.same valid))

pub returns-clause-small : goal.returns-clause-small
returns-clause-small c =
    let g = c.in_ok-g.g in
    let t = c.in_ok-g.ensures in
    grammar_small c.one_grammar.ensures c.requires.session_left.0 c.requires.session_right.0 c.args.t.now c.args.u.now
    c.requires.session_left.1 c.requires.session_right.1 g.letters.items g.rules.items t.translation.grammar t.small
