use Rattle.std.proofs.Common.{◌∙◌, sym, ap}
use Rattle.std.specs.Prelude.{option_map}
use Rattle.std.specs.Option.{option_or}
use Rattle.fst_paths.specs.Paths.{main_path}
use Rattle.fst_vm.specs.SlotOf.{slot_of, ended_in}
use Rattle.fst_vm.proofs.KeptLaws.{ended_asks}
use Rattle.fst_vm.proofs.tasks.Tasks.result.Goals as goal

pub result-requires : goal.result-requires
result-requires c =
    c.requires (slot_of c.in-Some.slot) (ap (λ o. option_or (option_map slot_of o) (ended_in c.args.self.ended.items main_path))
    (sym c.in-Some.ensures.value)) c.in-Ended.is

pub returns-in-Ended : goal.returns-in-Ended
returns-in-Ended c = (
  slot_of c.in-Some.slot,
  ap (λ o. option_or (option_map slot_of o) (ended_in c.args.self.ended.items main_path)) (sym c.in-Some.ensures.value),
  c.in-Ended.is,
  c.result.ensures,
)

pub ended_result-requires : goal.ended_result-requires
ended_result-requires c = λ s e.
    let es = c.args.self.ended.items in
    c.requires s (ap (λ o. option_or (option_map slot_of o) (ended_in es main_path)) (sym c.in-None.ensures.value) ∙ e)
    (ended_asks es main_path s e)
