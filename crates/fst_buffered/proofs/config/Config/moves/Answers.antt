use Rattle.std.proofs.Common.{◌∙◌, sym, ap}
use Rattle.std.specs.Map.{lookup}
use Rattle.fst_paths.specs.Paths.{at_path}
use Rattle.fst_vm.proofs.Laws.{its_slot}
use Rattle.fst_buffered.specs.Kept.{moves_so}
use Rattle.fst_buffered.specs.KeptOf.{kept_of}
use Rattle.fst_buffered.proofs.KeptLaws.{none_moves}
use Rattle.fst_buffered.proofs.config.Config.moves.Goals as goal

pub returns-in-Some : goal.returns-in-Some
returns-in-Some c =
    let k = c.args.self.now in
    c.can.ensures ∙ sym (ap (moves_so c.args.types c.args.capacity (kept_of k).channels)
    (its_slot k.tasks c.args.path.now c.as_slice.result.now c.in-Some.slot.now c.as_slice.ensures c.in-Some.ensures.value))

pub returns-in-None : goal.returns-in-None
returns-in-None c =
    let k = c.args.self.now in
    none_moves c.args.types c.args.capacity k c.args.path.now
    (c.in-None.ensures.value ∙ ap (λ p. lookup (at_path p) k.tasks.live.entries) c.as_slice.ensures)
