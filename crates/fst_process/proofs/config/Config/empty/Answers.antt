use Rattle.fst_process.specs.declared.config.Config.{Config}
use Rattle.fst_process.proofs.FireStart.{kept_nothing}
use Rattle.fst_process.proofs.config.Config.empty.Goals as goal

pub returns-clause-nothing : goal.returns-clause-nothing
returns-clause-nothing c =
    let made : Config = record {
      alloc = c.args.alloc;
      tasks = c.new.result;
      channels = c.new-2.result;
      ready = c.new-3.result;
      events = c.args.events;
    } in
    kept_nothing made c.new.ensures c.new-2.ensures c.new-3.ensures.empty
