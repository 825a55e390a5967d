use Rattle.std.proofs.Common.{◌∙◌}
use Rattle.fst_vm.proofs.KeptLaws.{put_after}
use Rattle.fst_vm.proofs.tasks.Tasks.put_live.Goals as goal

pub returns : goal.returns
returns c =
    let s = c.args.slot in
    let on = c.in_ok-insert.ensures.updates in
    put_after s.task.path c.in_ok-key.key.items s c.args.self.now c.insert.new.self
    (c.in_ok-key.ensures.items ∙ c.as_slice.ensures ∙ c.path.ensures) on.1 on.3
