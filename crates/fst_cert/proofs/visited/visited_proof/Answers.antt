use Rattle.std.proofs.Common.{◌∙◌, subst, sym}
use Rattle.fst_cert.specs.Visited.{IsClosed}
use Rattle.fst_cert.proofs.VisitedLaws.{closed, words_linked}
use Rattle.fst_cert.proofs.visited.visited_proof.Goals as goal

pub all_chains-requires-clause-closed : goal.all_chains-requires-clause-closed
all_chains-requires-clause-closed c =
    subst (IsClosed c.args.g.now.rules.items c.args.marks.now) (sym (c.deref.ensures.value ∙ c.in_ok-basis.ensures))
    (closed c.args.g.now.rules.items c.args.marks.now c.args.x.now c.args.y.now c.requires.reached.0 c.args.pairs.now
    c.requires.reached.1 c.requires.grammar c.requires.unnormed c.requires.left c.requires.right c.requires.few c.requires.words)

pub all_chains-requires-clause-linked : goal.all_chains-requires-clause-linked
all_chains-requires-clause-linked c =
    rw (c.deref.ensures.value, c.in_ok-basis.ensures, c.as_slice.ensures, c.as_slice-2.ensures)
    (words_linked c.args.g.now.rules.items c.args.marks.now c.args.x.now c.args.y.now c.requires.reached.0 c.args.pairs.now
    c.requires.reached.1)
