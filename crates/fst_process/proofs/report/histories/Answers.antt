use Rattle.std.proofs.Common.{◌<◌, ◌++◌, length, sym, subst, arith}
use Rattle.std.specs.List.{AllByRecursion}
use Rattle.fst_process.specs.Listed.{histories_in}
use Rattle.fst_paths.proofs.Laws.{few_each}
use Rattle.fst_process.proofs.report.histories.Goals as goal

pub loop-maker-init : goal.loop-maker-init
loop-maker-init c =
    let gives = c.into_iter-maker-iterator.ensures.into_iter_gives in
    let is = gives.0 in
    record {
      few = subst (AllByRecursion (λ e. length e.1.items < 4294967296)) (sym is)
          (few_each 4294967296 c.args.channels.entries (omega arith) gives.5 c.requires);
      listed = λ i. c.new-all.ensures.items i ++ histories_in (is i);
    }
