use Rattle.std.proofs.Common.{◌≡◌, ◌∙◌, ◌++◌, ap, reverse, List}
use Rattle.fst_basis.specs.declared.proof.Rewrite.{Rewrite}
use Rattle.fst_expand.specs.Trail.{noted}
use Rattle.fst_expand.proofs.FinishLaws.{joining_last}
use Rattle.fst_expand.proofs.joining.finish.Goals as goal

pub returns-clause-joining : goal.returns-clause-joining
returns-clause-joining c norms words x y old u none =
    let w = c.args.walk in
    let steps : c.append.new.self.items ≡ noted w.before.items w.heads c.in_ok-cut.cut ++ reverse w.after.items =
    c.in_ok-append.ensures.items ∙ ap (λ (z : List Rewrite). z ++ c.reverse.new.self.items) c.in_ok-note.ensures ∙ ap
    (λ (z : List Rewrite). noted w.before.items w.heads c.in_ok-cut.cut ++ z) c.reverse.ensures.items in
    rw steps (joining_last norms words x y old c.number.new.self.pairs c.args.table.now w c.in_ok-cut.cut u none
    c.in_ok-cut.ensures.number)
