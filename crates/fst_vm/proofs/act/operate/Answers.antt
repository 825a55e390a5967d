use Rattle.std.proofs.Common.{◌∙◌, option_map, refl, sym, ap}
use Rattle.fst_vm.specs.Scalars.{scalar_at}
use Rattle.fst_vm.proofs.StepLaws.{none_computed}
use Rattle.fst_vm.proofs.act.operate.Goals as goal

pub returns-in-None : goal.returns-in-None
returns-in-None c = (
  none_computed c.args.op c.in-Some-Some.left c.in-Some-Some.right c.args.stack.now c.in-Some-Some.ensures c.in-Some-Some.ensures'
      (sym c.operated.ensures ∙ ap (option_map scalar_at) c.in-None.is),
  refl,
)
