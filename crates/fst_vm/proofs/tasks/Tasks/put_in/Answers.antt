use Rattle.std.proofs.Common.{sym, ◌∙◌}
use Rattle.fst_vm.proofs.KeptLaws.{asks_nothing}
use Rattle.fst_vm.proofs.tasks.Tasks.put_in.Goals as goal

pub put_ended-requires : goal.put_ended-requires
put_ended-requires c = asks_nothing c.args.slot.request (sym c.has_ended.ensures ∙ c.if-has_ended.true)
