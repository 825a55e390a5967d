use Rattle.std.proofs.Common.{◌≡◌, ◌<◌, ◌∷◌, ap, subst, rules, arith}
use Rattle.std.specs.Vec.Iter.{into_iter_items}
use Rattle.fst_runs.specs.Logs.{forks_after}
use Rattle.fst_process.specs.Marks.{forks_behind}
use Rattle.fst_worker.proofs.LogMarks.{forks_rise}
use Rattle.fst_worker.proofs.marking.log_marks.Goals as goal

pub forks_after-behind-requires : goal.forks_after-behind-requires
forks_after-behind-requires c =
    let is : into_iter_items c.loop-kept.kept-iterator ≡ c.in-Some.kept ∷ into_iter_items c.next.new.self = search rules in
    let few = subst (λ es. forks_behind c.loop-kept.forked es < 4294967295) is c.loop-kept.invariant.few in
    let same = ap (λ e. forks_after e.answer c.loop-kept.forked) c.entry-asked.ensures in
    let rise = forks_rise (forks_after c.in-Some.kept.answer c.loop-kept.forked) (into_iter_items c.next.new.self) in
    omega (arith, few, same, rise)
