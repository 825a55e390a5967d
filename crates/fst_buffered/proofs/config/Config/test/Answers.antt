use Rattle.std.proofs.Common.{◌∙◌, sym, ap}
use Rattle.std.proofs.lemmas.Result.{on_ok_weaker}
use Rattle.fst_paths.specs.Paths.{has_path, put_at}
use Rattle.fst_buffered.specs.Kept.{retried}
use Rattle.fst_buffered.specs.KeptOf.{kept_of}
use Rattle.fst_buffered.proofs.config.Config.test.Goals as goal

pub returns-in-Some-clause-tested : goal.returns-in-Some-clause-tested
returns-in-Some-clause-tested c =
    let k = c.args.self.now in
    let d = kept_of k in
    on_ok_weaker c.mark.result (λ e i. record {
      tasks = d.tasks;
      channels = d.channels;
      made = d.made;
      ready = (e ∙ ap (λ b. put_at c.in-Some.path b (has_path k.ready.keys)) c.moves-able.ensures
          ∙ ap (λ o. retried c.args.types c.args.capacity o d) (sym c.in-Some.is)) i;
      asker = d.asker;
    }) c.mark.ensures

pub returns-in-None-clause-tested : goal.returns-in-None-clause-tested
returns-in-None-clause-tested c =
    let d = kept_of c.args.self.now in
    λ i. record {
      tasks = d.tasks;
      channels = d.channels;
      made = d.made;
      ready = ap (λ o. retried c.args.types c.args.capacity o d) (sym c.in-None.is) i;
      asker = d.asker;
    }
