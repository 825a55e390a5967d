use Rattle.std.proofs.Common.{◌∙◌, refl}
use Rattle.std.proofs.lemmas.Result.{on_ok_weaker}
use Rattle.fst_vm.specs.Slot.{Slot}
use Rattle.fst_buffered.proofs.KeptLaws.{settled_now}
use Rattle.fst_buffered.proofs.config.Config.settle.Goals as goal

pub returns-clause-settles : goal.returns-clause-settles
returns-clause-settles c =
    let k = c.args.self.now in
    let code = c.args.code.now in
    let slot : Slot = record { task = c.advance.new.self; request = c.in_ok-request.request; clock = 0 } in
    on_ok_weaker c.put_in.result
    (λ tasks. record {
      slot = slot;
      settles = record {
        stays = c.advance.ensures.stays;
        asked = c.in_ok-request.ensures.asked;
        rests = c.in_ok-request.ensures.rests;
      };
      clock = refl;
      after =
          settled_now code c.args.capacity c.len.result slot.task.path c.path.result.now slot k
          (record k { tasks = c.put_in.new.self; channels = c.note.new.channels; ready = c.note.new.ready })
          (c.len.ensures ∙ code.types.ok.0) c.path.ensures tasks c.in_ok-note.ensures;
    }) c.put_in.ensures
