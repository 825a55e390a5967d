use Rattle.std.proofs.Common.{◌≡◌, ◌∙◌}
use Rattle.fst_norms.specs.Pruned.{pruned_word}
use Rattle.fst_norms.proofs.PruneLaws.{pruned_performs, pruned-pruned, pruned_in_range}
use Rattle.fst_norms.proofs.pruning.prune.Goals as goal

pub returns-clause-pruned : goal.returns-clause-pruned
returns-clause-pruned c =
    let is : c.truncate.new.self ≡ pruned_word c.args.unnormed.now c.args.w.now = c.truncate.ensures
    ∙ (rw c.as_slice.ensures at c.pruned_len-len.ensures) in
    rw is (pruned-pruned _ _)

pub returns-clause-range : goal.returns-clause-range
returns-clause-range c = λ n below.
    let is : c.truncate.new.self ≡ pruned_word c.args.unnormed.now c.args.w.now = c.truncate.ensures
    ∙ (rw c.as_slice.ensures at c.pruned_len-len.ensures) in
    rw is (pruned_in_range n _ _ below)

pub returns-clause-same : goal.returns-clause-same
returns-clause-same c = λ g set.
    let is : c.truncate.new.self ≡ pruned_word c.args.unnormed.now c.args.w.now = c.truncate.ensures
    ∙ (rw c.as_slice.ensures at c.pruned_len-len.ensures) in
    rw is (pruned_performs g _ set _)
