-- The events of a module are one list.
use Rattle.std.proofs.Common.{sym, subst, List}
use Rattle.fst_runs.specs.declared.event.CoreEvent.{CoreEvent}
use Rattle.fst_runs.specs.Configs.{program, started}
use Rattle.fst_runs.specs.Least.{RunsLeast}
use Rattle.fst_runs.proofs.Laws.{least_runs, run_stamps, stamped_runs}
use Rattle.fst_runs.specs.StampedRuns.{RunsAt, events_in}
use Rattle.fst_safety.proofs.Laws.{all_same, one_end, one_text}
use Rattle.fst_merge.specs.LeastEvents.{SortedLaw, OneListLaw}

-- the sorted events of whichever run that comes to an end are the module's
pub sorted_events : SortedLaw
sorted_events m ds h main q es c r l s fs d least last =
    let k = run_stamps (program m) m.types.items (started main) fs d (least_runs (program m) m.types.items (started main) fs d
    least) in
    record {
      run = k.list;
      config = d;
      at = k.runs;
      least = subst (λ (gs : List CoreEvent). RunsLeast (program m) m.types.items (started main) gs d) (sym k.events) least;
      last = last;
      arranged = all_same m ds h main q es k.list c d r l k.runs last;
      sorted = s;
      in_order = subst (λ z. RunsAt (program m) m.types.items (started main) es z)
          (sym ((one_end m ds h main q (events_in es) c (stamped_runs (program m) m.types.items (started main) es c r) l fs d
          (least_runs (program m) m.types.items (started main) fs d least)).1 last).1) r;
    }

-- and these are one list
pub one_list : OneListLaw
one_list m ds h main q es fs a b =
    one_text m ds h main q a.run b.run a.config b.config a.at a.last b.at b.last es fs a.arranged a.sorted b.arranged b.sorted
